-- What a slot of a static table is.
use Rattle.std.proofs.Common.{◌≡◌, ◌≢◌, ℕ, Bool, true, false, List, [], ◌∷◌, ap, refl}
use Rattle.std.specs.Prelude.{◌==◌, slice_index}
use Rattle.std.specs.List.{flat_map}
use Rattle.std.proofs.lemmas.Bool.{eq-eqb, ne_eqb}
use Rattle.myi_defs.specs.declared.types.RowFormat.{RowFormat}
use Rattle.myi_defs.specs.declared.types.RowFormat.TheVariants.{Static}
use Rattle.myi_defs.specs.declared.types.Defs.{Defs}
use Rattle.myi_chain.specs.Readable.{row, free}
use Rattle.myi_data.specs.Slots.{Slot, slots_in}
use Rattle.myi_data.specs.Readable.{packs, slot_range, slot_row, slot_items, items_at, items_by, items_in}

pub slots_in_file : (d : Defs) (extend : Bool) (x : List ℕ) → d.format ≡ Static → items_in d extend x ≡ flat_map (slot_items (packs d)) (slots_in 0 d.slot_length x)
unfolding items_in items_at
slots_in_file d extend x static = ap (λ (f : RowFormat). items_by f d extend x) static

module _ (accepts : List ℕ → Bool) (s : Slot) where
  pub slot_deleted : slice_index s.bytes 0 ≡ 0 → slot_items accepts s ≡ free (slot_range s) ∷ []
  slot_deleted none = let is : (slice_index s.bytes 0 == 0) ≡ true = eq-eqb _ _ none in rw is refl

  pub slot_is_row : slice_index s.bytes 0 ≢ 0 → accepts s.bytes ≡ true → slot_items accepts s ≡ row (slot_row s) ∷ []
  slot_is_row some packs = let is : (slice_index s.bytes 0 == 0) ≡ false = ne_eqb _ _ some in rw (is, packs) refl

  pub slot_neither : slice_index s.bytes 0 ≢ 0 → accepts s.bytes ≡ false → slot_items accepts s ≡ []
  slot_neither some packs = let is : (slice_index s.bytes 0 == 0) ≡ false = ne_eqb _ _ some in rw (is, packs) refl
