-- Where a change meets damage, in a tree of which the file has each page: on its path, or beside it.
use Rattle.std.specs.Prelude.{◌≡◌, ◌⊎◌, ℕ, Bool, true, List, ◌∷◌, ◌++◌, Option, Some, None}
use Rattle.std.specs.Ordering.{is_gt}
use Rattle.myi_base.specs.Holding.{Holding}
use Rattle.myi_keycache.specs.Kept.{AllWritten}
use Rattle.myi_keycache.specs.Caching.{pages_of, Caching, IsCurrent}
use Rattle.myi_keylist.specs.declared.pair.Pair.{Pair}
use Rattle.myi_keylist.specs.PairOrder.{pair_cmp}
use Rattle.myi_btree.specs.declared.place.Place.{Place}
use Rattle.myi_btree.specs.Walk.{Node, Places}
use Rattle.myi_btree.specs.CachedTrees.{node_lent}
use Rattle.myi_search.specs.Path.{next_child, Leads}
use Rattle.myi_insertion.specs.Removal.{has_pair}

-- the file is as the last call of the cache left it, and has each page that is kept
pub record IsInFile (cache : Caching) (m : Holding) : Type 0 where
  pub current : IsCurrent cache m
  pub written : AllWritten (pages_of cache)

-- that is so afterwards too, and at each place stands what stood there
pub record ShowsSame (place : Place) (old : Caching) (m : Holding) (new : Caching) (n : Holding) : Type 0 where
  pub file : IsInFile new n
  pub shown : (p : ℕ) → node_lent place new n p ≡ node_lent place old m p

-- on its path a pair passes by those that stand before it
abbrev pub goes_behind : Pair → Pair → Bool
goes_behind p q = is_gt (pair_cmp p q)

-- a path along the last children passes by all pairs
abbrev pub goes_last : Pair → Bool
goes_last q = true

-- from a place on, the path leads to a place where no page stands
abbrev pub LacksPage : Places → (Pair → Bool) → ℕ → ℕ → Type 0
LacksPage read passes from at = (path : List ℕ) × Leads read passes from path at × (read at ≡ None)

-- one child stands before the other, or behind it, with no child between them
abbrev pub AreNeighbours : ℕ → ℕ → List ℕ → Type 0
AreNeighbours child other children = (front : List ℕ) × (back : List ℕ) × ((children ≡ front ++ child ∷ other ∷ back) ⊎ (children ≡ front ++ other ∷ child ∷ back))

-- from a place on, the path leads through a page that has this place as the neighbour of the child that is next
abbrev pub IsBeside : Places → (Pair → Bool) → ℕ → ℕ → Type 0
IsBeside read passes from at = (path : List ℕ) × (page : ℕ) × (node : Node) × (child : ℕ) × Leads read passes from path page × (read page ≡ Some node)
    × (next_child passes node.pairs node.children ≡ Some child) × AreNeighbours child at node.children

-- no page stands there on the path, or the place is beside the path
abbrev pub IsNearPath : Places → (Pair → Bool) → ℕ → ℕ → Type 0
IsNearPath read passes from at = LacksPage read passes from at ⊎ IsBeside read passes from at

-- the path of the pair leads to a page that has it, and goes into this child
abbrev pub HasItAbove : Places → Pair → ℕ → ℕ → Type 0
HasItAbove read p from child = (path : List ℕ) × (page : ℕ) × (node : Node) × Leads read (goes_behind p) from path page × (read page ≡ Some node)
    × (has_pair p node.pairs ≡ true) × (next_child (goes_behind p) node.pairs node.children ≡ Some child)

-- The path to a pair that is taken out: the path of the pair, and from a page that has it, and is no leaf, along the last children.
abbrev pub IsNearPair : Places → Pair → ℕ → ℕ → Type 0
IsNearPair read p from at = IsNearPath read (goes_behind p) from at ⊎ ((child : ℕ) × HasItAbove read p from child × IsNearPath read goes_last child at)

-- the same of the path of a pair that is put in; a tree without a root has no such place
abbrev pub IsMissing : Places → Pair → Option ℕ → ℕ → Type 0
IsMissing read p None at = ⊥
IsMissing read p (Some root) at = LacksPage read (goes_behind p) root at

abbrev pub IsDamage : Places → Pair → Option ℕ → ℕ → Type 0
IsDamage read p None at = ⊥
IsDamage read p (Some root) at = IsNearPair read p root at
