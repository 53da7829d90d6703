-- How well the pages of a tree are filled, and what a pair that is put in leaves of that.
use Rattle.std.specs.Prelude.{◌≡◌, ◌⊎◌, ◌+◌, ◌*◌, ◌/◌, ◌≤◌, ℕ, List, [], ◌∷◌, length, Option, Some, nat_lt}
use Rattle.std.specs.List.{AllByRecursion, Contains}
use Rattle.myi_base.specs.Holding.{Holding}
use Rattle.myi_keypage.specs.Fitting.{used_length}
use Rattle.myi_keycache.specs.Caching.{Caching}
use Rattle.myi_keylist.specs.declared.pair.Pair.{Pair}
use Rattle.myi_btree.specs.declared.place.Place.{Place}
use Rattle.myi_btree.specs.Nodes.{entry_of, entries_of}
use Rattle.myi_btree.specs.Walk.{Node, Places}
use Rattle.myi_btree.specs.CachedTrees.{node_lent}
use Rattle.myi_insertion.specs.CachedTree.{IsTree}

-- each of these pairs takes at most so many bytes of a page, with a child beside it: its key's code, 6 and the row pointer, and 7
abbrev pub TakeAtMost : Place → ℕ → List Pair → Type 0
TakeAtMost place most pairs = AllByRecursion (λ (p : Pair). length (entry_of p).key + 13 + place.rec_ref ≤ most) pairs

-- how many bytes of its page a node uses
abbrev pub used_by : Place → Node → ℕ
used_by place node = used_length place.rec_ref (nat_lt 0 (length node.children)) (entries_of node.pairs)

-- at least half of the page is used, less two entries of so many bytes
abbrev pub IsFilled : Place → ℕ → Places → ℕ → Type 0
IsFilled place most read at = (node : Node) × (read at ≡ Some node) × (place.block_length / 2 ≤ used_by place node + 2 * most)

-- of a page that stood there no fewer bytes are used
abbrev pub LosesNone : Place → Places → Places → ℕ → Type 0
LosesNone place old new at = (was : Node) → old at ≡ Some was → (is : Node) × (new at ≡ Some is) × (used_by place was ≤ used_by place is)

-- a page is so filled, or it is one of these, and no fewer bytes of it are used
abbrev pub StaysFilled : Place → ℕ → Places → Places → List ℕ → ℕ → Type 0
StaysFilled place most old new pages at = IsFilled place most new at ⊎ (Contains pages at × LosesNone place old new at)

-- the pages of a tree without that of its root, which is the first
abbrev pub below_root : List ℕ → List ℕ
below_root [] = []
below_root (root ∷ pages) = pages

-- In place of the tree on these pages stands one with these pairs, at this root. Each page below its root is filled to the half, less
-- two of the longest entries, or it is a page from below the old root, of which no fewer bytes are used.
pub record KeepsFilled (place : Place) (old : Caching) (m : Holding) (olds : List ℕ) (told : Option Holding) (new : Caching) (root : Option ℕ) (xs : List Pair) : Type 0 where
  pub now : Holding
  pub held : told ≡ Some now
  pub pages : List ℕ
  pub tree : IsTree place new now root xs pages
  pub filled : (most at : ℕ) → TakeAtMost place most xs → Contains (below_root pages) at → StaysFilled place most (node_lent place old m) (node_lent place new now) (below_root olds) at
