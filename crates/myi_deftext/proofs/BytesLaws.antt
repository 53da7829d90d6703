-- The header that a text stands for is bytes, and so is what is read of it.
use Rattle.std.proofs.Common.{◌≡◌, ℕ, zero, suc, ◌+◌, ◌-◌, ◌*◌, ◌/◌, ◌%◌, ◌<◌, count_by, if◌then◌else◌, Bool, List, [], ◌∷◌, length, replicate, Option, Some, None, Ok, sym, subst, arith}
use Rattle.std.specs.List.{flat_map}
use Rattle.myi_base.specs.Numbers.{AreBytes}
use Rattle.myi_base.specs.Items.{spelling}
use Rattle.myi_base.proofs.CallerLemmas.{bytes-take, bytes-append, bytes-none, bytes-num_bytes}
use Rattle.myi_base.specs.Numbers.{num_at}
use Rattle.myi_defs.specs.declared.types.SegType.{SegType}
use Rattle.myi_defs.specs.declared.types.Defs.{Defs}
use Rattle.myi_defs.specs.declared.header.Front.{Front}
use Rattle.myi_defs.specs.declared.header.SegItem.{SegItem}
use Rattle.myi_deftext.specs.declared.text.Line.{Line}
use Rattle.myi_deftext.specs.declared.text.Line.TheVariants as line
use Rattle.myi_defs.specs.Layout.{mark, first_page, all_keys}
use Rattle.myi_defs.specs.EmptyTable.{zeros, nulls, empty_state}
use Rattle.myi_defs.specs.ReadDefs.{AreDefs}
use Rattle.myi_deftext.specs.TextHeader.{stored, kind_number, seg_number, key_most, page_length, row_said, slot_as, format_said, fields_said, keys_said, has_flag, field_bytes, seg_bytes_as, seg_bytes, leading, key_bytes, keys_bytes, pointer_said, front_said, front_spelling, length_said, base_spelling, text_header}
use Rattle.myi_deftext.specs.ParseText.{parse_text}
use Rattle.myi_deftext.specs.Grammar.{table_lines}
use Rattle.myi_defs.proofs.CallerLemmas.{are_defs, raw-header}
use Rattle.myi_deftext.proofs.ParseLaws.{made}

filled : (n b : ℕ) → b < 256 → AreBytes (replicate n b)
filled zero b few i = omega arith
filled (suc n) b few zero = few
filled (suc n) b few (suc i) = filled n b few i

bytes-zeros : (n : ℕ) → AreBytes (zeros n)
unfolding zeros
bytes-zeros n = filled n 0 (omega arith)

bytes-nulls : (n : ℕ) → AreBytes (nulls n)
unfolding nulls
bytes-nulls n = filled (8 * n) 255 (omega arith)

bytes-spelling : (ws vs : List ℕ) → AreBytes (spelling ws vs)
bytes-spelling [] vs = bytes-none
bytes-spelling (w ∷ ws) [] = bytes-none
bytes-spelling (w ∷ ws) (v ∷ vs) = bytes-append _ _ (bytes-num_bytes w v) (bytes-spelling ws vs)

bytes-state : (f : Front) (n : ℕ) → AreBytes (empty_state f n)
unfolding empty_state
bytes-state f n =
    bytes-append _ _ (bytes-zeros 28)
    (bytes-append _ _ (bytes-nulls 1)
    (bytes-append _ _ (bytes-num_bytes 8 n)
    (bytes-append _ _ (bytes-zeros 56)
    (bytes-append _ _ (bytes-nulls (f.keys + f.page_sizes))
    (bytes-append _ _ (bytes-zeros 12)
    (bytes-append _ _ (bytes-num_bytes 8 (all_keys f.keys)) (bytes-zeros (32 + 4 * f.key_parts))))))))

bytes-mark : AreBytes mark
bytes-mark zero = omega arith
bytes-mark (suc zero) = omega arith
bytes-mark (suc (suc zero)) = omega arith
bytes-mark (suc (suc (suc zero))) = omega arith
bytes-mark (suc (suc (suc (suc zero)))) = omega arith
bytes-mark (suc (suc (suc (suc (suc zero))))) = omega arith
bytes-mark (suc (suc (suc (suc (suc (suc i)))))) = omega arith

bytes-field : (g : Line) → AreBytes (field_bytes g)
bytes-field (line.Field k n) = bytes-spelling (2 ∷ 2 ∷ 1 ∷ 2 ∷ []) (kind_number k ∷ n ∷ 0 ∷ 0 ∷ [])
bytes-field g = bytes-none

bytes-fields : (gs : List Line) → AreBytes (flat_map field_bytes gs)
bytes-fields [] = bytes-none
bytes-fields (g ∷ gs) = bytes-append _ _ (bytes-field g) (bytes-fields gs)

bytes-segment : (t : Option SegType) (s : SegItem) → AreBytes (seg_bytes_as t s)
bytes-segment None s = bytes-none
bytes-segment (Some t) s = bytes-spelling (1 ∷ 1 ∷ 1 ∷ 1 ∷ 1 ∷ 1 ∷ 2 ∷ 2 ∷ 4 ∷ 4 ∷ []) (seg_number t ∷ s.language % 256 ∷ s.null_bit ∷ 0 ∷ s.language / 256 ∷ 0 ∷ 0 ∷ s.length ∷ s.start ∷ s.null_pos ∷ [])

bytes-seg : (s : SegItem) → AreBytes (seg_bytes s)
unfolding seg_bytes
bytes-seg s = bytes-segment s.seg s

bytes-key : (pointer : ℕ) (u : Bool) (ss : List SegItem) → AreBytes (key_bytes pointer u ss)
unfolding key_bytes
bytes-key pointer u ss = let most = key_most ss in bytes-spelling (1 ∷ 1 ∷ 2 ∷ 2 ∷ 2 ∷ 2 ∷ 2 ∷ []) (stored 1 (length ss) ∷ 0 ∷ (if u then 1 else 0) ∷ stored 2 (page_length pointer most) ∷ stored 2 most ∷ stored 2 most ∷ stored 2 most ∷ [])

bytes-keys : (pointer : ℕ) (gs : List Line) → AreBytes (keys_bytes pointer gs)
bytes-keys pointer [] = bytes-none
bytes-keys pointer (line.Key u ∷ gs) = bytes-append _ _ (bytes-key pointer u (leading gs)) (bytes-keys pointer gs)
bytes-keys pointer (line.Seg s ∷ gs) = bytes-append _ _ (bytes-seg s) (bytes-keys pointer gs)
bytes-keys pointer (g ∷ gs) = bytes-keys pointer gs

bytes-front : (f : Front) → AreBytes (front_spelling f)
unfolding front_spelling
bytes-front f = bytes-spelling (4 ∷ 2 ∷ 2 ∷ 2 ∷ 2 ∷ 2 ∷ 2 ∷ 2 ∷ 1 ∷ 1 ∷ 1 ∷ 1 ∷ 1 ∷ 1 ∷ []) (f.magic ∷ f.options ∷ f.header_length ∷ f.state_info_length ∷ f.base_info_length ∷ f.base_pos ∷ f.key_parts ∷ 0 ∷ f.keys ∷ f.uniques ∷ 8 ∷ f.page_sizes ∷ f.fulltext_keys ∷ 0 ∷ [])

bytes-base : (gs : List Line) (end : ℕ) → AreBytes (base_spelling gs end)
unfolding base_spelling
bytes-base gs end = bytes-spelling (8 ∷ 8 ∷ 8 ∷ 8 ∷ 8 ∷ 4 ∷ 4 ∷ 4 ∷ 4 ∷ 4 ∷ 4 ∷ 4 ∷ 4 ∷ 1 ∷ 1 ∷ 1 ∷ 1 ∷ 2 ∷ 2 ∷ 2 ∷ 2 ∷ 2 ∷ 1 ∷ 1 ∷ 2 ∷ 4 ∷ []) (end ∷ 0 ∷ 0 ∷ 0 ∷ 0 ∷ 0 ∷ row_said gs ∷ slot_as (format_said gs) (row_said gs) (pointer_said gs) ∷ 0 ∷ 0 ∷ 0 ∷ fields_said gs ∷ 0 ∷ pointer_said gs ∷ 6 ∷ stored 1 (keys_said gs) ∷ 0 ∷ (count_by has_flag gs + 7) / 8 ∷ 0 ∷ 0 ∷ 0 ∷ 0 ∷ 0 ∷ 0 ∷ 0 ∷ 0 ∷ [])

bytes-text : (gs : List Line) → AreBytes (text_header gs)
unfolding text_header
bytes-text gs =
    bytes-append _ _ (bytes-front (front_said gs))
    (bytes-append _ _ (bytes-state (front_said gs) (first_page (length_said gs)))
    (bytes-append _ _ (bytes-base gs (first_page (length_said gs)))
    (bytes-append mark _ bytes-mark
    (bytes-append _ _ (bytes-keys (pointer_said gs) gs)
    (bytes-append _ _ (bytes-fields gs) (bytes-zeros (first_page (length_said gs) - length_said gs)))))))

pub text_defs : (x : List ℕ) (d : Defs) → parse_text x ≡ Ok d → AreDefs d
text_defs x d e =
    let s = made x d e in
    are_defs (text_header (table_lines s.table)) d s.header

pub text_bytes : (x : List ℕ) (d : Defs) → parse_text x ≡ Ok d → AreBytes d.raw
text_bytes x d e =
    let s = made x d e in
    let h = text_header (table_lines s.table) in
    subst AreBytes (sym (raw-header h d s.header)) (bytes-take (num_at 6 2 h) h (bytes-text (table_lines s.table)))
