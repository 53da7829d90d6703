-- What is read of the text of the table, and of its header.
use Rattle.std.proofs.Common.{◌≡◌, ◌≢◌, ◌≤◌, ◌-◌, ◌^◌, ◌∙◌, ℕ, zero, suc, Bool, true, List, [], ◌∷◌, Ok, Err, refl, sym, arith}
use Rattle.std.specs.Prelude.{◌&&◌, nat_lt, Result}
use Rattle.std.proofs.lemmas.Bool.{and_from, and_parts, le-leb, lt-ltb, ltb-true}
use Rattle.std.proofs.lemmas.List.{length-take}
use Rattle.myi_base.specs.Numbers.{num_at, AreBytes}
use Rattle.myi_base.proofs.CallerLemmas.{bytes-none, bytes-take}
use Rattle.myi_defs.specs.Addressable.{is_addressable}
use Rattle.myi_defs.specs.ReadDefs.{AreDefs}
use Rattle.myi_defs.specs.Sound.{IsSound}
use Rattle.myi_defs.proofs.CallerLemmas.{sound, are_defs}
use Rattle.myi_header.specs.StateOf.{state_of}
use Rattle.myi_header.proofs.CallerLemmas.{state-take}
use Rattle.myi_defs.specs.declared.types.Defs.{Defs}
use Rattle.myi_deftext.specs.declared.parse.TextFault.{TextFault}
use Rattle.myi_deftext.specs.declared.parse.TextFault.TheVariants as fault
use Rattle.myi_base.specs.Numbers.{num, num_bytes}
use Rattle.myi_deftext.specs.ParseText.{parse_text}
use Rattle.myi_deftext.specs.Text.{step, line_of, two_words, format_of, field_line, kind_of, number, is_decimal, value, unique_of, seg_line, seg_of, signed_of, unsigned_of}
use Rattle.myi_defs.specs.ReadDefs.{read_defs, is_short, has_other_magic, has_wrong_lengths, refusal}
use Rattle.myi_deftext.specs.TextHeader.{text_header, base_spelling, front_said, front_spelling, key_bytes, seg_bytes}
use Rattle.myi_defs.specs.Conditions.{has_fulltext, has_long_keys, has_spatial, has_wrong_blocks, has_wrong_collation, has_wrong_fields, has_wrong_front, has_wrong_keys, has_wrong_place, has_wrong_pointers, has_wrong_row, has_wrong_segment, has_wrong_types, is_misplaced}
use Rattle.myi_defs.specs.EmptyTable.{empty_header, empty_state, front_bytes, base_bytes, nulls, zeros}
use Rattle.myi_defs.specs.Header.{base, field_item, field_items, front, key_item, key_items, outline, seg_item, seg_items}
use Rattle.myi_defs.specs.Layout.{all_keys}
use Rattle.myi_make.specs.MadeTable.{text, header, defs}

pub text_read : parse_text text ≡ Ok defs
unfolding header defs num num_bytes parse_text step line_of two_words format_of field_line kind_of number is_decimal value unique_of seg_line seg_of signed_of unsigned_of read_defs is_short has_other_magic has_wrong_lengths refusal text_header base_spelling front_said front_spelling key_bytes seg_bytes has_fulltext has_long_keys has_spatial has_wrong_blocks has_wrong_collation has_wrong_fields has_wrong_front has_wrong_keys has_wrong_place has_wrong_pointers has_wrong_row has_wrong_segment has_wrong_types is_misplaced empty_state nulls zeros base field_item field_items front key_item key_items outline seg_item seg_items all_keys
text_read = refl

pub header_read : read_defs header ≡ Ok defs
unfolding header defs num num_bytes step line_of two_words format_of field_line kind_of number is_decimal value unique_of seg_line seg_of signed_of unsigned_of read_defs is_short has_other_magic has_wrong_lengths refusal text_header base_spelling front_said front_spelling key_bytes seg_bytes has_fulltext has_long_keys has_spatial has_wrong_blocks has_wrong_collation has_wrong_fields has_wrong_front has_wrong_keys has_wrong_place has_wrong_pointers has_wrong_row has_wrong_segment has_wrong_types is_misplaced empty_state nulls zeros base field_item field_items front key_item key_items outline seg_item seg_items all_keys
header_read = refl

pub printed : empty_header defs.raw ≡ header
unfolding header defs num num_bytes step line_of two_words format_of field_line kind_of number is_decimal value unique_of seg_line seg_of signed_of unsigned_of empty_header front_bytes base_bytes text_header base_spelling front_said front_spelling key_bytes seg_bytes empty_state nulls zeros front all_keys
printed = refl

clash : (f : TextFault) → parse_text text ≡ Err f → ⊥
clash f refused = let e : ◌≡◌ {A = Result Defs TextFault} (Ok defs) (Err f) = sym text_read ∙ refused in cc

-- nothing but want of memory is told of it
pub memory_only : (f : TextFault) → (f ≢ fault.Memory → parse_text text ≡ Err f) → f ≡ fault.Memory
memory_only fault.Memory stopped = refl
memory_only (fault.Line n) stopped = absurd (clash (fault.Line n) (stopped (λ e. cc)))
memory_only (fault.Def d) stopped = absurd (clash (fault.Def d) (stopped (λ e. cc)))

pub only_defs : (d : Defs) → parse_text text ≡ Ok d → d ≡ defs
only_defs d read = same d (sym read ∙ text_read)
  where
    same : (d : Defs) → ◌≡◌ {A = Result Defs TextFault} (Ok d) (Ok defs) → d ≡ defs
    same d e = cc

-- ---- what follows of its definitions

pub defs_are : AreDefs defs
defs_are = are_defs header defs header_read

pub defs_sound : IsSound defs
defs_sound = sound defs defs_are

-- row pointers reach the whole file
pub reached : (end : ℕ) → end ≤ 2 ^ 40 → is_addressable defs end ≡ true
unfolding is_addressable defs
reached end less = and_from _ _ (le-leb end (2 ^ 40) less) (lt-ltb end (256 ^ 6 - 1) (omega (arith, less)))

-- the header is bytes

are_small : List ℕ → Bool
are_small [] = true
are_small (x ∷ xs) = nat_lt x 256 && are_small xs

small_bytes : (xs : List ℕ) → are_small xs ≡ true → AreBytes xs
unfolding are_small
small_bytes [] small i = bytes-none i
small_bytes (x ∷ xs) small zero = ltb-true x 256 ((and_parts (nat_lt x 256) (are_small xs) small).0)
small_bytes (x ∷ xs) small (suc i) = small_bytes xs ((and_parts (nat_lt x 256) (are_small xs) small).1) i

header_small : are_small header ≡ true
unfolding are_small header defs num num_bytes step line_of two_words format_of field_line kind_of number is_decimal value unique_of seg_line seg_of signed_of unsigned_of empty_header front_bytes base_bytes text_header base_spelling front_said front_spelling key_bytes seg_bytes empty_state nulls zeros front all_keys
header_small = refl

pub header_bytes : AreBytes defs.raw
unfolding defs
header_bytes = bytes-take (num_at 6 2 header) header (small_bytes header header_small)

-- the state of the empty table, as it is read of the definitions
pub empty_read : state_of defs defs.raw ≡ state_of defs header
unfolding defs
empty_read = state-take defs (num_at 6 2 header) header defs_sound (omega (arith, length-take (num_at 6 2 header) header))
