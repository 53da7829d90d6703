-- The row that bytes pack, found from the left: the function that answers what the relation `Packs` says.
-- The form of a parser is this project's own.
use Rattle.std.specs.Prelude.{◌+◌, ◌-◌, ◌*◌, ◌/◌, ◌%◌, ◌^◌, ℕ, Bool, not, ◌&&◌, ◌||◌, ◌==◌, nat_le, nat_lt, if◌then◌else◌, List, [], ◌∷◌, ◌++◌, length, take, drop, replicate, slice_index, Option, Some, None, option_and_then}
use Rattle.std.specs.Option.{option_map}
use Rattle.std.specs.Borrow.{Bor}
use Rattle.myi_base.specs.Numbers.{num, low_num}
use Rattle.myi_defs.specs.declared.types.RowFormat.{RowFormat}
use Rattle.myi_defs.specs.declared.types.RowFormat.TheVariants.{Static, Dynamic}
use Rattle.myi_defs.specs.declared.types.FieldKind.{FieldKind}
use Rattle.myi_defs.specs.declared.types.FieldKind.TheVariants.{Normal, SkipEndspace, SkipPrespace, SkipZero, Blob, Varchar}
use Rattle.myi_defs.specs.declared.types.Field.{Field}
use Rattle.myi_defs.specs.declared.types.Defs.{Defs}
use Rattle.myi_pack.specs.Lengths.{length_bytes}
use Rattle.myi_pack.specs.Flags.{flag_count, flag_bytes, flag_at, next_flag}
use Rattle.myi_pack.specs.Packed.{Values, spaces}

-- what stands in front, and the bytes behind it
abbrev pub Cut : Type 0
Cut = Option (List ℕ × List ℕ)

-- a length, and the bytes behind it
abbrev pub Prefix : Type 0
Prefix = Option (ℕ × List ℕ)

-- the same of slices that a call answers
abbrev pub as_cut : Option (Bor (List ℕ) × Bor (List ℕ)) → Cut
as_cut answer = option_map (λ r. (r.0.now, r.1.now)) answer

-- what stands in front
abbrev pub as_value : Cut → Option (List ℕ)
as_value c = option_map (λ r. r.0) c

abbrev pub as_prefix : Option (ℕ × Bor (List ℕ)) → Prefix
as_prefix answer = option_map (λ r. (r.0, r.1.now)) answer

-- n bytes
abbrev pub cut : ℕ → List ℕ → Cut
cut n b = if nat_le n (length b) then Some (take n b, drop n b) else None

-- so many bytes as a length in front says
abbrev pub cut_prefixed : Prefix → Cut
cut_prefixed told = option_and_then (λ r. cut r.0 r.1) told

-- the same, where these are few enough
abbrev pub cut_few : ℕ → Prefix → Cut
cut_few most told = option_and_then (λ r. if nat_le r.0 most then cut r.0 r.1 else None) told

-- the length of a SKIP_ENDSPACE or SKIP_PRESPACE field
abbrev pub skip_prefix : ℕ → List ℕ → Prefix
skip_prefix n [] = None
skip_prefix n (x ∷ b) = if nat_le n 255 || nat_lt x 128 then Some (x, b) else option_map (λ r. (x - 128 + slice_index r.0 0 * 128, r.1)) (cut 1 b)

-- the length of a VARCHAR field in a dynamic row
abbrev pub varchar_prefix : ℕ → List ℕ → Prefix
varchar_prefix n [] = None
varchar_prefix n (x ∷ b) = if nat_le n 256 || nat_lt x 255 then Some (x, b) else option_map (λ r. (num 2 r.0, r.1)) (cut 2 b)

-- a length of w bytes, low byte first
abbrev pub low_prefix : ℕ → List ℕ → Prefix
low_prefix w b = option_map (λ r. (low_num w r.0, r.1)) (cut w b)

abbrev pub padded : ℕ → List ℕ → List ℕ
padded n c = c ++ spaces (n - length c)

abbrev pub led : ℕ → List ℕ → List ℕ
led n c = spaces (n - length c) ++ c

abbrev pub with_value : (List ℕ → List ℕ) → Cut → Cut
with_value value c = option_map (λ r. (value r.0, r.1)) c

-- a field of a dynamic row
abbrev pub packed_field : FieldKind → ℕ → Bool → List ℕ → Cut
packed_field Normal n bit b = cut n b
packed_field SkipEndspace n bit b = if bit then with_value (padded n) (cut_few (n - 1) (skip_prefix n b)) else cut n b
packed_field SkipPrespace n bit b = if bit then with_value (led n) (cut_few (n - 1) (skip_prefix n b)) else cut n b
packed_field SkipZero n bit b = if bit then Some (replicate n 0, b) else cut n b
packed_field Blob n bit b = if bit then Some ([], b) else cut_prefixed (low_prefix (n - 8) b)
packed_field Varchar n bit b = cut_few (n - length_bytes n) (varchar_prefix n b)

-- a VARCHAR field of a static row from its n bytes
abbrev pub filled_varchar : ℕ → List ℕ → Cut
filled_varchar n x = cut_few (n - length_bytes n) (low_prefix (length_bytes n) x)

-- the value of a field, and the bytes behind the field
abbrev pub value_before : Cut → List ℕ → Cut
value_before c rest = option_map (λ r. (r.0, rest)) c

-- a field of a static row
abbrev pub filled_field : FieldKind → ℕ → List ℕ → Cut
filled_field Normal n b = cut n b
filled_field SkipEndspace n b = cut n b
filled_field SkipPrespace n b = cut n b
filled_field SkipZero n b = cut n b
filled_field Blob n b = None
filled_field Varchar n b = option_and_then (λ r. value_before (filled_varchar n r.0) r.1) (cut n b)

abbrev pub held_field : RowFormat → FieldKind → ℕ → Bool → List ℕ → Cut
held_field Static kind n bit b = filled_field kind n b
held_field Dynamic kind n bit b = packed_field kind n bit b

-- a field: its value, and the bytes behind it
unfoldable pub field_of : RowFormat → Field → Bool → List ℕ → Cut
field_of format f bit b = held_field format f.kind f.length bit b

abbrev pub put_front : List ℕ → Option (Values × List ℕ) → Option (Values × List ℕ)
put_front v None = None
put_front v (Some r) = Some (v ∷ r.0, r.1)

abbrev pub then_fields : (List ℕ → Option (Values × List ℕ)) → Cut → Option (Values × List ℕ)
then_fields more None = None
then_fields more (Some r) = put_front r.0 (more r.1)

-- the fields one after the other, and the bytes behind them; flag k is the first of theirs
abbrev pub fields_of : RowFormat → List Field → ℕ → List ℕ → List ℕ → Option (Values × List ℕ)
fields_of format [] k flags b = Some ([], b)
fields_of format (f ∷ fs) k flags b = then_fields (fields_of format fs (next_flag f.kind k) flags) (field_of format f (flag_at flags k) b)

-- no flag past the last one is set
abbrev pub is_spare_clear : ℕ → List ℕ → Bool
is_spare_clear count flags = (count % 8 == 0) || nat_lt (slice_index flags (count / 8)) (2 ^ (count % 8))

-- the flags, and the bytes behind them
abbrev pub parts_of : RowFormat → Defs → List ℕ → Cut
parts_of Static d b = if (length b == d.slot_length) && not (slice_index b 0 == 0) then Some ([], b) else None
parts_of Dynamic d b = option_and_then (λ r. if is_spare_clear (flag_count d.fields) r.0 then Some r else None) (cut (flag_bytes (flag_count d.fields)) b)

-- no byte is left over but in a static row
abbrev pub ended : RowFormat → Option (Values × List ℕ) → Option Values
ended format None = None
ended Static (Some r) = Some r.0
ended Dynamic (Some r) = if length r.1 == 0 then Some r.0 else None

unfoldable pub row_of : Defs → List ℕ → Option Values
row_of d b = option_and_then (λ p. ended d.format (fields_of d.format d.fields 0 p.0 p.1)) (parts_of d.format d b)
