-- What stands first in some bytes is what is met in every file in which they stand.
use Rattle.std.proofs.Common.{◌≡◌, ◌∙◌, ◌+◌, ◌-◌, ◌<◌, ◌≤◌, ℕ, Bool, true, false, leb, List, [], ◌∷◌, ◌++◌, length, take, drop, sym, ap, subst, arith, refl}
use Rattle.std.specs.Prelude.{if◌then◌else◌}
use Rattle.std.proofs.lemmas.List.{take-take, drop-drop, length-drop, length-take, length-take-le}
use Rattle.myi_chain.specs.Readable.{Item, row, free}
use Rattle.myi_window.specs.Excerpt.{Excerpt, bytes_from, AreFront, StandsIn, EndsBy}
use Rattle.myi_window.proofs.CallerLemmas.{front_drop, excerpt_here, excerpt_inside}
use Rattle.myi_chain.specs.declared.piece.Wanted.{Wanted}
use Rattle.myi_chain.specs.ScanModel.{PassesTo}
use Rattle.myi_chain.proofs.CallerLemmas.{to_same, to_more}
use Rattle.myi_data.specs.NextSlot.{row_in_slot, items_from, IsKind, IsNextAt, HoldNone}
use Rattle.myi_data.specs.declared.next_slot.SlotKind.TheVariants as kind
use Rattle.std.specs.List.{flat_map}
use Rattle.std.proofs.lemmas.Bool.{leb-true, le-leb}
use Rattle.myi_data.specs.Readable.{items_at, slot_row, slot_items}
use Rattle.myi_data.proofs.SlotLaws.{slots_none}
use Rattle.myi_data.proofs.SlotLemmas.{items_more}

-- a front is no longer than the list, and is its take
pub front_long : (xs ys : List ℕ) → AreFront xs ys → length xs ≤ length ys
front_long xs ys front =
    let same : length xs ≡ length (take (length xs) ys) = ap (λ (zs : List ℕ). length zs) front in
    omega (arith, same, length-take (length xs) ys)

pub front_cut : (n : ℕ) (xs ys : List ℕ) → AreFront xs ys → n ≤ length xs → take n ys ≡ take n xs
front_cut n xs ys front few = sym (ap (take n) front ∙ take-take n (length xs) ys few)

module _ (wanted : Wanted) (accepts : List ℕ → Bool) (size : ℕ) (bytes : List ℕ) (some : 0 < size) where
  -- the slot behind so many of the bytes is that of the file
  inside_file : (at p : ℕ) (x : List ℕ) → at + size ≤ length bytes → AreFront bytes (drop p x) → p + at + size ≤ length x
  inside_file at p x few front = omega (arith, front_long bytes (drop p x) front, length-drop p x)

  same_slot : (at p : ℕ) (x : List ℕ) → at + size ≤ length bytes → AreFront bytes (drop p x) → take size (drop (p + at) x) ≡ take size (drop at bytes)
  same_slot at p x few front =
      ap (take size) (sym (drop-drop at p x)) ∙ front_cut size (drop at bytes) (drop at (drop p x)) (front_drop at bytes (drop p x) front) (omega (arith, length-drop at bytes))

  -- what is met there is what the slot is, and what is met behind it
  slot_next : (at p : ℕ) (x : List ℕ) → at + size ≤ length bytes → AreFront bytes (drop p x)
      → items_from accepts size x (p + at) ≡ slot_items accepts (record { at = p + at; bytes = take size (drop at bytes) }) ++ items_from accepts size x (p + at + size)
  slot_next at p x few front =
      items_more accepts size (p + at) x some (inside_file at p x few front)
      ∙ ap (λ (b : List ℕ). slot_items accepts (record { at = p + at; bytes = b }) ++ items_from accepts size x (p + at + size)) (same_slot at p x few front)

  next_place : (p at : ℕ) (x : List ℕ) → items_from accepts size x (p + at + size) ≡ items_from accepts size x (p + (at + size))
  next_place p at x =
      let e : p + at + size ≡ p + (at + size) = omega arith in
      ap (items_from accepts size x) e

  long_slot : (at : ℕ) → at + size ≤ length bytes → length (take size (drop at bytes)) ≡ size
  long_slot at few = length-take-le size (drop at bytes) (omega (arith, length-drop at bytes))

  pub free_met : (at : ℕ) → HoldNone wanted accepts size bytes at → at + size ≤ length bytes → IsKind wanted accepts (take size (drop at bytes)) kind.Free
      → IsNextAt wanted accepts size bytes at (λ at x. free (at, at + size) ∷ items_from accepts size x (at + size))
  free_met at before few is p x front =
      let here : items_from accepts size x (p + at) ≡ free (p + at, p + at + length (take size (drop at bytes))) ∷ items_from accepts size x (p + at + size) = slot_next at p x few front ∙ ap (λ (xs : List Item). xs ++ items_from accepts size x (p + at + size)) (is.1 (p + at)) in
      subst (PassesTo wanted (items_from accepts size x p)) (here ∙ ap (λ n. free (p + at, p + at + n) ∷ items_from accepts size x (p + at + size)) (long_slot at few)) (before p x front)

  pub row_met : (at : ℕ) → HoldNone wanted accepts size bytes at → at + size ≤ length bytes → IsKind wanted accepts (take size (drop at bytes)) kind.Row
      → IsNextAt wanted accepts size bytes at (λ at x. row (row_in_slot size x at) ∷ items_from accepts size x (at + size))
  row_met at before few is p x front =
      let here : items_from accepts size x (p + at) ≡ row (slot_row (record { at = p + at; bytes = take size (drop at bytes) })) ∷ items_from accepts size x (p + at + size) = slot_next at p x few front ∙ ap (λ (xs : List Item). xs ++ items_from accepts size x (p + at + size)) (is.1 (p + at)) in
      subst (PassesTo wanted (items_from accepts size x p)) (here ∙ ap (λ (b : List ℕ). row (slot_row (record { at = p + at; bytes = b })) ∷ items_from accepts size x (p + at + size)) (sym (same_slot at p x few front))) (before p x front)

  pub other_met : (at : ℕ) → HoldNone wanted accepts size bytes at → at + size ≤ length bytes → IsKind wanted accepts (take size (drop at bytes)) kind.Neither
      → HoldNone wanted accepts size bytes (at + size)
  other_met at before few is p x front =
      to_more wanted (items_from accepts size x p) (items_from accepts size x (p + at)) (items_from accepts size x (p + (at + size))) (slot_items accepts (record { at = p + at; bytes = take size (drop at bytes) })) (before p x front) (is (p + at))
      (slot_next at p x few front ∙ ap (λ (xs : List Item). slot_items accepts (record { at = p + at; bytes = take size (drop at bytes) }) ++ xs) (next_place p at x))

  pub none_met : HoldNone wanted accepts size bytes 0
  none_met p x front =
      let e : p ≡ p + 0 = omega arith in
      to_same wanted _ _ (ap (items_from accepts size x) e)

-- ---- what is found between two places of a file

module _ (accepts : List ℕ → Bool) (size : ℕ) where
  none_left : (at : ℕ) (ys : List ℕ) → length ys < size → items_at accepts size at ys ≡ []
  unfolding items_at
  none_left at ys short = ap (flat_map (slot_items accepts)) (slots_none at size ys short)

  -- where fewer bytes than a slot are left, nothing is
  pub few_left : (at : ℕ) (x : List ℕ) → 0 < size → length x < at + size → items_from accepts size x at ≡ []
  few_left at x some few = none_left at (drop at x) (omega (arith, length-drop at x))

  pub seen_later : (p skip : ℕ) (s : Excerpt) → 0 < length (bytes_from p s) → bytes_from (p + skip) s ≡ drop skip (bytes_from p s)
  seen_later p skip s some = by_place (leb s.from p) refl some
    where
      by_place : (b : Bool) → leb s.from p ≡ b → 0 < length (if b then drop (p - s.from) s.bytes else []) → bytes_from (p + skip) s ≡ drop skip (if b then drop (p - s.from) s.bytes else [])
      by_place true e more =
          let before : s.from ≤ p = leb-true _ _ e in
          let here : leb s.from (p + skip) ≡ true = le-leb _ _ (omega arith) in
          let sum : p + skip - s.from ≡ p - s.from + skip = omega arith in
          let is : bytes_from (p + skip) s ≡ drop (p + skip - s.from) s.bytes = rw here refl in
          is ∙ ap (λ n. drop n s.bytes) sum ∙ sym (drop-drop skip (p - s.from) s.bytes)
      by_place false e more = absurd (omega arith)

  -- the slot of a row that was met is shown
  pub row_shown : (p skip : ℕ) (bytes : List ℕ) (s : Excerpt) → bytes ≡ bytes_from p s → 0 < size → skip + size ≤ length bytes → accepts (take size (drop skip bytes)) ≡ true
      → (size ≤ length (bytes_from (p + skip) s)) × (accepts (take size (bytes_from (p + skip) s)) ≡ true)
  row_shown p skip bytes s same some few packs =
      let long : length bytes ≡ length (bytes_from p s) = ap (λ (xs : List ℕ). length xs) same in
      let is : bytes_from (p + skip) s ≡ drop skip bytes = seen_later p skip s (omega (arith, long)) ∙ ap (drop skip) (sym same) in
      let count : length (bytes_from (p + skip) s) ≡ length (drop skip bytes) = ap (λ (xs : List ℕ). length xs) is in
      (omega (arith, count, length-drop skip bytes), ap (λ (xs : List ℕ). accepts (take size xs)) is ∙ packs)

-- what a window shows from a place on is a front of the file's bytes there
pub held_front : (p end : ℕ) (bytes : List ℕ) (s : Excerpt) (d : List ℕ) → bytes ≡ bytes_from p s → p ≤ end → EndsBy end s → StandsIn s d → AreFront bytes (drop p (take end d))
held_front p end bytes s d same order inside shows = subst (λ (xs : List ℕ). AreFront xs (drop p (take end d))) (sym same) (excerpt_here p end s d order inside shows)

pub held_inside : (p end : ℕ) (bytes : List ℕ) (s : Excerpt) → bytes ≡ bytes_from p s → p ≤ end → EndsBy end s → p + length bytes ≤ end
held_inside p end bytes s same order inside = omega (arith, ap (λ (xs : List ℕ). length xs) same, excerpt_inside p end s order inside)

-- what is passed on two ways one after the other
pub passes_then : (w : Wanted) (a b c : List Item) → PassesTo w a b → PassesTo w b c → PassesTo w a c
passes_then w a b c first more = to_more w a b c more.0 first more.1 more.2

-- at the end no slot is left
pub end_left : (accepts : List ℕ → Bool) (size end at : ℕ) (d : List ℕ) → 0 < size → end ≤ at → items_from accepts size (take end d) at ≡ []
end_left accepts size end at d some past = few_left accepts size at (take end d) some (omega (arith, length-take end d))
