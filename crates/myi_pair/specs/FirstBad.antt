-- The first failing thing of a list of tests, of a list of deleted blocks, of what a tree's walk meets, and of the bytes of a
-- file (which of them is told is this project's own).
use Rattle.std.specs.Prelude.{◌==◌, ◌&&◌, ℕ, zero, suc, min, Bool, false, not, if◌then◌else◌, List, [], ◌∷◌, Option, Some, None}
use Rattle.std.specs.Option.{option_map}
use Rattle.std.specs.List.{list_any}
use Rattle.std.specs.Ordering.{is_eq}
use Rattle.myi_base.specs.Ranges.{Range}
use Rattle.myi_keys.specs.declared.values.KeySeg.{KeySeg}
use Rattle.myi_keylist.specs.declared.pair.Pair.{Pair}
use Rattle.myi_keylist.specs.PairOrder.{pair_cmp}
use Rattle.myi_keylist.specs.Repeats.{is_same_key}
use Rattle.myi_btree.specs.Events.{Event, page, pair, bad}
use Rattle.myi_pair.specs.Clean.{covers}

-- ---- tests

-- what the first test is of that fails
abbrev pub first_failed : {A : Type 0} → List (A × Bool) → Option A
first_failed [] = None
first_failed (t ∷ ts) = if t.1 then first_failed ts else Some t.0

-- ---- the list of deleted blocks

-- the places without this one, where it is among them
abbrev pub without : ℕ → List ℕ → Option (List ℕ)
without p [] = None
without p (q ∷ qs) = if q == p then Some qs else option_map (λ rest. q ∷ rest) (without p qs)

abbrev pub least_of : ℕ → List ℕ → ℕ
least_of p [] = p
least_of p (q ∷ qs) = least_of (min p q) qs

-- the lowest of these places
abbrev pub least : List ℕ → Option ℕ
least [] = None
least (p ∷ ps) = Some (least_of p ps)

-- the place itself is bad where it is not among those that are left, or does not name the one before it
abbrev pub link_bad : ℕ → Bool → (List ℕ → Option ℕ) → Option (List ℕ) → Option ℕ
link_bad p named go None = Some p
link_bad p named go (Some others) = if named then go others else Some p

-- The first bad place of a list that goes on at a place, behind one before it, where these places are left to be met: one
-- that is none of them, or that does not name the one before it; at the list's end the lowest that is left. `next` is what
-- a place names as the next one, and `names` whether it names a place as the one before.
abbrev pub list_bad : (ℕ → Option ℕ) → (ℕ → Option ℕ → Bool) → ℕ → List ℕ → Option ℕ → Option ℕ → Option ℕ
list_bad next names zero left before None = least left
list_bad next names zero left before (Some p) = Some p
list_bad next names (suc n) left before None = least left
list_bad next names (suc n) left before (Some p) = link_bad p (names p before) (λ others. list_bad next names n others (Some p) (next p)) (without p left)

-- ---- what a walk meets

-- the key is complete and that of the pair before
abbrev pub repeats_last : Option (List KeySeg) → List KeySeg → Bool
repeats_last None key = false
repeats_last (Some last) key = is_same_key last key

-- place 0 where pairs are left that no walk met
abbrev pub pairs_bad : List Pair → Option ℕ
pairs_bad [] = None
pairs_bad (p ∷ ps) = Some 0

-- a pair of a page is bad where it is not the next one, or repeats the complete key of the one before it in a unique key
abbrev pub pair_bad : Bool → Option (List KeySeg) → Pair → ℕ → (List Pair → Option ℕ) → List Pair → Option ℕ
pair_bad unique last p at go [] = Some at
pair_bad unique last p at go (q ∷ qs) = if is_eq (pair_cmp p q) && not (unique && repeats_last last p.key) then go qs else Some at

-- the page of the first bad thing that a walk meets, where it is to meet these pairs, behind one with a key
abbrev pub walk_bad : Bool → Option (List KeySeg) → List Pair → List Event → Option ℕ
walk_bad unique last pairs [] = pairs_bad pairs
walk_bad unique last pairs (page at ∷ es) = walk_bad unique last pairs es
walk_bad unique last pairs (bad at ∷ es) = Some at
walk_bad unique last pairs (pair p at ∷ es) = pair_bad unique last p at (λ left. walk_bad unique (Some p.key) left es) pairs

-- ---- bytes

-- the first of so many bytes from a place on that belongs to none of these ranges
abbrev pub first_gap : ℕ → ℕ → List Range → Option ℕ
first_gap zero p ranges = None
first_gap (suc n) p ranges = if list_any (covers p) ranges then first_gap n (suc p) ranges else Some p
