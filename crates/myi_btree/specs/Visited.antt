-- What the code of a walk has met so far, and the pages that it has open.
use Rattle.std.specs.Prelude.{◌≡◌, ℕ, ◌+◌, ◌^◌, ◌<◌, ◌≤◌, ◌∷◌, Bool, true, false, List, [], length, Option, Some, None}
use Rattle.std.specs.List.{list_all}
use Rattle.std.specs.Vec.Iter.{into_iter_items}
use Rattle.myi_keycache.specs.Caching.{Caching}
use Rattle.myi_btree.specs.CachedTrees.{RoseBy}
use Rattle.myi_btree.specs.declared.visited.OpenPage.{OpenPage}
use Rattle.myi_btree.specs.Walk.{Node, node_with}

-- the set and the list have the same places, as many: what holds of all of one holds of all of the other
abbrev pub HasPlaces : List ℕ → List ℕ → Type 0
HasPlaces keys met = ((test : ℕ → Bool) → list_all test keys ≡ list_all test met) × (length keys ≡ length met)

-- as many read requests were counted as pages were met
abbrev pub CountsMet : Caching → Caching → List ℕ → List ℕ → Type 0
CountsMet old new before after = (n : ℕ) × (length after ≡ length before + n) × RoseBy n old.counters.read_requests new.counters.read_requests

-- no more pages were read than were met
abbrev pub ReadsMet : ℕ → ℕ → List ℕ → List ℕ → Type 0
ReadsMet before after old new = after + length old ≤ before + length new

-- or one more than that
abbrev pub ReadsOneMore : ℕ → ℕ → List ℕ → List ℕ → Type 0
ReadsOneMore before after old new = after + length old ≤ before + length new + 1

-- the pairs and children of an open page that are still to come
abbrev pub node_left : OpenPage → Node
node_left page = node_with (into_iter_items page.pairs) (into_iter_items page.children)

-- a page has fewer than 2^64 pairs, and fewer than 2^64 children
abbrev pub IsCounted : Node → Type 0
IsCounted node = (length node.pairs < 2 ^ 64) × (length node.children < 2 ^ 64)

-- none is to come
abbrev pub is_none_left : List ℕ → Bool
is_none_left [] = true
is_none_left (x ∷ xs) = false

-- the first item is taken, where there is one
abbrev pub Takes : {A : Type 0} → Option A → List A → List A → Type 0
Takes None old new = (old ≡ []) × (new ≡ [])
Takes (Some x) old new = old ≡ x ∷ new
