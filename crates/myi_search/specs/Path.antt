-- The path of a search. In each page it goes into the child before the first pair that it does not pass by, and into the last
-- child where it passes by all, down to a leaf (the children and pairs of a page stand as in MySQL Internals Manual, ".MYI").
use Rattle.std.specs.Prelude.{◌≡◌, ◌⊎◌, ℕ, Bool, true, false, if◌then◌else◌, List, [], ◌∷◌, Option, Some, None}
use Rattle.std.specs.Ordering.{is_lt, is_le}
use Rattle.myi_keys.specs.declared.values.KeySeg.{KeySeg}
use Rattle.myi_keys.specs.Order.{key_cmp}
use Rattle.myi_keylist.specs.declared.pair.Pair.{Pair}
use Rattle.myi_keylist.specs.PairOrder.{pair_cmp}
use Rattle.myi_btree.specs.Walk.{Node, Places}
use Rattle.myi_btree.specs.CachedTrees.{is_among}

-- a search for a key passes by the pairs whose key is below it
abbrev pub is_below : List KeySeg → Pair → Bool
is_below key p = is_lt (key_cmp p.key key)

-- a search for the pair above another one passes by all up to that one
abbrev pub is_up_to : Option Pair → Pair → Bool
is_up_to None p = false
is_up_to (Some after) p = is_le (pair_cmp p after)

-- the child before the first pair that is not passed by, or the last one; a leaf has none
abbrev pub next_child : (Pair → Bool) → List Pair → List ℕ → Option ℕ
next_child passes pairs [] = None
next_child passes [] (c ∷ cs) = Some c
next_child passes (p ∷ ps) (c ∷ cs) = if passes p then next_child passes ps cs else Some c

-- the page at a place has this child next, or none
pub record HasNext (read : Places) (passes : Pair → Bool) (place : ℕ) (child : Option ℕ) : Type 0 where
  pub node : Node
  pub stands : read place ≡ Some node
  pub next : next_child passes node.pairs node.children ≡ child

-- from a place on, through these pages, the path leads to this place
abbrev pub Leads : Places → (Pair → Bool) → ℕ → List ℕ → ℕ → Type 0
Leads read passes from [] at = at ≡ from
Leads read passes from (p ∷ path) at = (p ≡ from) × (child : ℕ) × HasNext read passes from (Some child) × Leads read passes child path at

-- no place is there twice
abbrev pub AreDifferent : List ℕ → Type 0
AreDifferent [] = Unit {0}
AreDifferent (p ∷ ps) = (is_among ps p ≡ false) × AreDifferent ps

-- the search went into these pages, each once, and comes to this place
pub record Comes (read : Places) (passes : Pair → Bool) (root : ℕ) (path : List ℕ) (at : ℕ) : Type 0 where
  pub leads : Leads read passes root path at
  pub once : AreDifferent path

-- the first place on the path where no page stands, or that was gone into before
abbrev pub IsStopped : Places → (Pair → Bool) → Option ℕ → ℕ → Type 0
IsStopped read passes None at = ⊥
IsStopped read passes (Some root) at = (path : List ℕ) × Comes read passes root path at × ((read at ≡ None) ⊎ (is_among path at ≡ true))

-- the path ends in a leaf, or there is no root
abbrev pub Arrives : Places → (Pair → Bool) → Option ℕ → Type 0
Arrives read passes None = Unit {0}
Arrives read passes (Some root) = (path : List ℕ) × (at : ℕ) × Comes read passes root path at × (is_among path at ≡ false) × HasNext read passes at None
