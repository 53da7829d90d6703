-- The rows of a static table whose fields are all NORMAL.
use Rattle.std.proofs.Common.{◌≡◌, ℕ, zero, suc, ◌+◌, ◌*◌, ◌/◌, ◌<◌, ◌≤◌, Bool, true, false, eqb, List, [], ◌∷◌, length, map, take, drop, Option, Some, None, refl, sym, ap, ◌∙◌, arith}
use Rattle.std.specs.Prelude.{slice_index, filter, is_some, nat_le}
use Rattle.std.specs.List.{flat_map, AllByRecursion}
use Rattle.std.proofs.Math.Nat.{div-mul-le_self, le-div_iff_mul-le}
use Rattle.std.proofs.lemmas.List.{length-take-le, length-drop, length-map}
use Rattle.std.proofs.lemmas.List.Sums.{length-filter, count_by-le-length, sum_by-cons}
use Rattle.std.proofs.lemmas.List.Elements.{recursion_from_All}
use Rattle.std.proofs.lemmas.Bool.{eq-eqb, ne_eqb, le-leb}
use Rattle.myi_defs.specs.declared.types.RowFormat.{RowFormat}
use Rattle.myi_defs.specs.declared.types.RowFormat.TheVariants.{Static}
use Rattle.myi_defs.specs.declared.types.FieldKind.TheVariants.{Normal}
use Rattle.myi_defs.specs.declared.types.Field.{Field}
use Rattle.myi_defs.specs.declared.types.Defs.{Defs}
use Rattle.myi_defs.specs.Sound.{IsSound, fields_length}
use Rattle.myi_pack.specs.Packed.{Values}
use Rattle.myi_pack.specs.Unpacking.{Cut, row_of, ended, fields_of, then_fields, put_front, field_of}
use Rattle.myi_pack.specs.Flags.{flag_at, next_flag}
use Rattle.myi_chain.specs.Readable.{rows_of}
use Rattle.myi_data.specs.Slots.{Slot, slots, slots_in}
use Rattle.myi_data.specs.Readable.{packs, slot_row, slot_items, items_at, items_by, items_in, readable}
use Rattle.myi_data.specs.Plain.{IsPlain, is_used, plain_rows}
use Rattle.myi_data.proofs.SlotLaws.{slots_none, slots_more, first_byte, length-slots}
use Rattle.myi_data.proofs.RowsLemmas.{either}

pub plain_none : (at size : ℕ) (xs : List ℕ) → length xs < size → plain_rows at size xs ≡ []
unfolding plain_rows
plain_none at size xs short = ap (λ ss. map slot_row (filter (λ (s : Slot). is_used s.bytes) ss)) (slots_none at size xs short)

pub plain_row : (at size : ℕ) (xs : List ℕ) → 0 < size → size ≤ length xs → (slice_index xs 0 ≡ 0 → ⊥) → plain_rows at size xs ≡ slot_row (record { at = at; bytes = take size xs }) ∷ plain_rows (at + size) size (drop size xs)
unfolding plain_rows
plain_row at size xs some inside used =
    let test : eqb (slice_index (take size xs) 0) 0 ≡ false = ne_eqb _ _ (λ e. used (sym (first_byte size xs some) ∙ e)) in
    ap (λ ss. map slot_row (filter (λ (s : Slot). is_used s.bytes) ss)) (slots_more at size xs some inside) ∙ rw test refl

-- there are no more rows than whole slots
pub few_plain : (at size end : ℕ) (xs : List ℕ) → 0 < size → length xs ≤ end → length (plain_rows at size xs) ≤ end / size
unfolding plain_rows
few_plain at size end xs some inside =
    let whole : length xs / size * size ≤ length xs = div-mul-le_self (length xs) size in
    let more : length xs / size ≤ end / size = (le-div_iff_mul-le some).1 (omega arith) in
    let ss : List Slot = slots_in at size xs in
    let used : Slot → Bool = λ s. is_used s.bytes in
    let kept : length (filter used ss) ≤ length ss = omega (arith, length-filter used ss, count_by-le-length used ss) in
    omega (arith, kept, length-map (filter used ss) slot_row, length-slots (length xs / size) at size xs, more)

-- the rows of a file are whole slots, and none of them begins with 0

slots_long : (n at size : ℕ) (xs : List ℕ) → n * size ≤ length xs → AllByRecursion (λ r. length r.bytes ≡ size) (map slot_row (filter (λ (s : Slot). is_used s.bytes) (slots n at size xs)))
slots_long zero at size xs room = tt
slots_long (suc n) at size xs room =
    let more : List Slot = filter (λ (s : Slot). is_used s.bytes) (slots n (at + size) size (drop size xs)) in
    let behind = slots_long n (at + size) size (drop size xs) (omega (arith, length-drop size xs)) in
    let slot : Slot = record { at = at; bytes = take size xs } in
    either (λ (ss : List Slot). AllByRecursion (λ r. length r.bytes ≡ size) (map slot_row ss)) (is_used (take size xs)) (slot ∷ more) more (λ _. (length-take-le size xs (omega arith), behind)) (λ _. behind)

pub plain_long : (at size : ℕ) (xs : List ℕ) → AllByRecursion (λ r. length r.bytes ≡ size) (plain_rows at size xs)
unfolding plain_rows
plain_long at size xs = slots_long (length xs / size) at size xs (div-mul-le_self (length xs) size)

slots_used : (ss : List Slot) → AllByRecursion (λ r. is_used r.bytes ≡ true) (map slot_row (filter (λ (s : Slot). is_used s.bytes) ss))
slots_used [] = tt
slots_used (s ∷ ss) =
    let more : List Slot = filter (λ (t : Slot). is_used t.bytes) ss in
    either (λ (ts : List Slot). AllByRecursion (λ r. is_used r.bytes ≡ true) (map slot_row ts)) (is_used s.bytes) (s ∷ more) more (λ e. (e, slots_used ss)) (λ _. slots_used ss)

pub plain_used : (at size : ℕ) (xs : List ℕ) → AllByRecursion (λ r. is_used r.bytes ≡ true) (plain_rows at size xs)
unfolding plain_rows
plain_used at size xs = slots_used (slots_in at size xs)

-- ---- a slot of such a table packs a row exactly where its first byte is not 0

front_some : (v : List ℕ) (o : Option (Values × List ℕ)) → is_some o ≡ true → is_some (put_front v o) ≡ true
front_some v None e = absurd cc
front_some v (Some r) e = refl

one_field : (f : Field) (bit : Bool) (b : List ℕ) → f.kind ≡ Normal → nat_le f.length (length b) ≡ true → field_of Static f bit b ≡ Some (take f.length b, drop f.length b)
unfolding field_of
one_field f bit b kind test = rw (kind, test) refl

fields_some : (fs : List Field) (k : ℕ) (flags b : List ℕ) → AllByRecursion (λ f. f.kind ≡ Normal) fs → fields_length fs ≤ length b → is_some (fields_of Static fs k flags b) ≡ true
fields_some [] k flags b normal room = refl
fields_some (f ∷ fs) k flags b normal room =
    let all : fields_length (f ∷ fs) ≡ f.length + fields_length fs = sum_by-cons (λ (g : Field). g.length) f fs in
    let one = one_field f (flag_at flags k) b normal.0 (le-leb _ _ (omega (arith, all))) in
    let more = fields_some fs (next_flag f.kind k) flags (drop f.length b) normal.1 (omega (arith, all, length-drop f.length b)) in
    ap (λ (c : Cut). is_some (then_fields (fields_of Static fs (next_flag f.kind k) flags) c)) one ∙ front_some (take f.length b) (fields_of Static fs (next_flag f.kind k) flags (drop f.length b)) more

module _ (d : Defs) (s : IsSound d) (plain : IsPlain d) where
  ended_some : (o : Option (Values × List ℕ)) → is_some o ≡ true → is_some (ended Static o) ≡ true
  ended_some None e = absurd cc
  ended_some (Some r) e = refl

  used_packs : (b : List ℕ) → length b ≡ d.slot_length → eqb (slice_index b 0) 0 ≡ false → packs d b ≡ true
  unfolding row_of
  used_packs b long used =
      let static = plain.0 in
      let same : eqb (length b) d.slot_length ≡ true = eq-eqb _ _ long in
      let room : fields_length d.fields ≤ length b = omega (arith, s.total, s.long_slot static, long) in
      let normal = recursion_from_All (λ (f : Field). f.kind ≡ Normal) d.fields plain.1 in
      let some = ended_some (fields_of Static d.fields 0 [] b) (fields_some d.fields 0 [] b normal room) in
      rw (static, same, used) some

  abbrev AreUsed : ℕ → ℕ → List ℕ → Type 0
  AreUsed n at xs = rows_of (flat_map (slot_items (packs d)) (slots n at d.slot_length xs)) ≡ map slot_row (filter (λ (t : Slot). is_used t.bytes) (slots n at d.slot_length xs))

  by_first : (n at : ℕ) (xs : List ℕ) → d.slot_length ≤ length xs → AreUsed n (at + d.slot_length) (drop d.slot_length xs) → (b : Bool) → eqb (slice_index (take d.slot_length xs) 0) 0 ≡ b → AreUsed (suc n) at xs
  by_first n at xs room more true e = rw e more
  by_first n at xs room more false e =
      let long : length (take d.slot_length xs) ≡ d.slot_length = length-take-le d.slot_length xs room in
      let packed : packs d (take d.slot_length xs) ≡ true = used_packs (take d.slot_length xs) long e in
      rw (e, packed) (ap (λ rs. slot_row (record { at = at; bytes = take d.slot_length xs }) ∷ rs) more)

  plain_slots : (n at : ℕ) (xs : List ℕ) → n * d.slot_length ≤ length xs → AreUsed n at xs
  plain_slots zero at xs room = refl
  plain_slots (suc n) at xs room =
      by_first n at xs (omega (arith, room)) (plain_slots n (at + d.slot_length) (drop d.slot_length xs) (omega (arith, room, length-drop d.slot_length xs))) (eqb (slice_index (take d.slot_length xs) 0) 0) refl

  pub plain_read : (extend : Bool) (x : List ℕ) → readable d extend x ≡ plain_rows 0 d.slot_length x
  unfolding readable items_in items_at plain_rows
  plain_read extend x = ap (λ (f : RowFormat). rows_of (items_by f d extend x)) plain.0 ∙ plain_slots (length x / d.slot_length) 0 x (div-mul-le_self (length x) d.slot_length)
