-- What is met in the slots of a file, from a place on.
use Rattle.std.proofs.Common.{◌≡◌, ℕ, ◌+◌, ◌-◌, ◌<◌, ◌≤◌, Bool, List, [], ◌++◌, length, take, drop, ap, ◌∙◌, arith}
use Rattle.std.specs.List.{flat_map}
use Rattle.std.proofs.lemmas.List.{length-take-le, length-drop, drop-drop}
use Rattle.myi_data.specs.Slots.{Slot, slots_in}
use Rattle.myi_data.specs.Readable.{slot_items, items_at}
use Rattle.myi_data.proofs.SlotLaws.{slots_more, slots_none}

module _ (accepts : List ℕ → Bool) (size : ℕ) where
  -- the slot at a place
  abbrev here : List ℕ → ℕ → Slot
  here d at = record { at = at; bytes = take size (drop at d) }

  pub items_none : (at : ℕ) (d : List ℕ) → at ≤ length d → length d < at + size → items_at accepts size at (drop at d) ≡ []
  unfolding items_at
  items_none at d inside short =
      ap (flat_map (slot_items accepts)) (slots_none at size (drop at d) (omega (arith, length-drop at d)))

  pub items_more : (at : ℕ) (d : List ℕ) → 0 < size → at + size ≤ length d → items_at accepts size at (drop at d) ≡ slot_items accepts (here d at) ++ items_at accepts size (at + size) (drop (at + size) d)
  unfolding items_at
  items_more at d some inside =
      ap (flat_map (slot_items accepts)) (slots_more at size (drop at d) some (omega (arith, length-drop at d)))
      ∙ ap (λ (xs : List ℕ). slot_items accepts (here d at) ++ flat_map (slot_items accepts) (slots_in (at + size) size xs)) (drop-drop size at d)

  pub long_here : (at : ℕ) (d : List ℕ) → at + size ≤ length d → length (take size (drop at d)) ≡ size
  long_here at d inside = length-take-le size (drop at d) (omega (arith, length-drop at d))

-- a slice of the file's bytes is the slot
pub cut_here : (at size : ℕ) (d : List ℕ) → take (at + size - at) (drop at d) ≡ take size (drop at d)
cut_here at size d =
    let n : at + size - at ≡ size = omega arith in
    ap (λ k. take k (drop at d)) n
