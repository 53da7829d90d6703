-- How many pairs the first of several pages takes.
use Rattle.std.proofs.Common.{◌≡◌, ◌↔◌, ℕ, ◌+◌, ◌-◌, ◌/◌, ◌<◌, ◌≤◌, min, Bool, List, length, take, sym, subst, inl, inr, arith}
use Rattle.std.proofs.lemmas.Bool.{cases_lt}
use Rattle.std.proofs.lemmas.List.{take_all}
use Rattle.myi_keypage.specs.declared.entry.Entry.{Entry}
use Rattle.myi_keypage.specs.Fitting.{used_length}
use Rattle.myi_keylist.specs.declared.pair.Pair.{Pair}
use Rattle.myi_btree.specs.declared.place.Place.{Place}
use Rattle.myi_btree.specs.Nodes.{entries_of}
use Rattle.myi_btree.specs.Sizes.{IsFitting}
use Rattle.myi_insertion.specs.Written.{IsWellFilled}
use Rattle.myi_insertion.proofs.WriteLaws.{entries-take, length-entries}

pub all_fit : (place : Place) (node : Bool) (ps : List Pair) (m : ℕ) → IsFitting place node (entries_of ps) m → m ≡ length ps → 0 < length ps → used_length place.rec_ref node (entries_of ps) ≤ place.block_length
all_fit place node ps m f all some =
    let whole : take m (entries_of ps) ≡ entries_of ps = take_all m (entries_of ps) (omega (arith, length-entries ps)) in
    subst (λ (es : List Entry). used_length place.rec_ref node es ≤ place.block_length) whole ((f.exact m (omega arith) (omega (arith, length-entries ps))).0 (omega arith))

pub some_fit : (place : Place) (node : Bool) (ps : List Pair) (m n : ℕ) → IsFitting place node (entries_of ps) m → 0 < n → n ≤ m → used_length place.rec_ref node (entries_of (take n ps)) ≤ place.block_length
some_fit place node ps m n f some le =
    subst (λ (es : List Entry). used_length place.rec_ref node es ≤ place.block_length) (sym (entries-take n ps)) ((f.exact n some (let i = f.inside in omega arith)).0 le)

-- so many of the entries fit into a page of a length, and no more
abbrev pub Fit : Place → Bool → List Entry → ℕ → ℕ → Type 0
Fit place node es room m = (count : ℕ) → 0 < count → count ≤ length es → (count ≤ m) ↔ (used_length place.rec_ref node (take count es) ≤ room)

pub beyond : (place : Place) (node : Bool) (ps : List Pair) (room m n : ℕ) → Fit place node (entries_of ps) room m → 0 < n → n ≤ length ps → m < n → room < used_length place.rec_ref node (entries_of (take n ps))
beyond place node ps room m n fit some le more = elim (cases_lt room (used_length place.rec_ref node (entries_of (take n ps)))) [
  | inl lt ↦ lt
  | inr small ↦ absurd (
      let k = (fit n some (omega (arith, le, length-entries ps))).1 (subst (λ (es : List Entry). used_length place.rec_ref node es ≤ room) (entries-take n ps) small) in
      omega (arith, k, more))
]

pub well_filled : (place : Place) (node : Bool) (ps : List Pair) (most half n : ℕ) → Fit place node (entries_of ps) place.block_length most → Fit place node (entries_of ps) (place.block_length / 2) half → most < length ps → n ≡ min (min most (half + 1)) (length ps - 2) → 0 < n
    → IsWellFilled place node ps n
well_filled place node ps most half n fits halves less is some = elim (cases_lt n (length ps - 2)) [
  | inr last ↦ inr (inr (omega (arith, last, is, some)))
  | inl lt ↦ elim (cases_lt n (half + 1)) [
    | inr big ↦ inl (beyond place node ps (place.block_length / 2) half n halves some (omega (arith, lt)) (omega (arith, big)))
    | inl small ↦ inr (inl (beyond place node ps place.block_length most (n + 1) fits (omega arith) (omega (arith, lt)) (omega (arith, small, lt, is))))
  ]
]
