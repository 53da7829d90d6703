-- What a search gathers that keeps the pairs of the leaf that it ends in.
use Rattle.std.specs.Prelude.{◌≡◌, ℕ, zero, suc, Bool, true, false, List, [], ◌++◌, drop, slice_get, Option, Some, None, IfSome}
use Rattle.std.specs.Option.{option_to_list}
use Rattle.myi_keylist.specs.declared.pair.Pair.{Pair}
use Rattle.myi_btree.specs.Walk.{Node, Places, Walked, walk_of, content}
use Rattle.myi_search.specs.Passing.{IsParted}
use Rattle.myi_search.specs.Cursor.{from_kept}

-- the pair before a place in a list, and none at its beginning
abbrev pub pair_before : ℕ → List Pair → Option Pair
pair_before zero pairs = None
pair_before (suc i) pairs = slice_get pairs i

-- of a leaf all pairs were gathered, and the best pair so far behind them
abbrev pub GathersLeaf : Option Node → Option Pair → List Pair → Type 0
GathersLeaf page best run = (node : Node) → page ≡ Some node → node.children ≡ [] → run ≡ node.pairs ++ option_to_list best

-- these pairs begin to be kept where all do, and all that are kept of them come first; where none is, none of all is
pub record IsRun (test : Pair → Bool) (pairs run : List Pair) : Type 0 where
  pub rest : List Pair
  pub is : from_kept test pairs ≡ from_kept test run ++ rest
  pub none : from_kept test run ≡ [] → rest ≡ []

-- a search of a tree comes to a page of it: what is kept of that page's tree, and then the best pair so far, come first of what the tree keeps
pub record IsAhead (read : Places) (test : Pair → Bool) (w : Walked) (at : ℕ) (best : Option Pair) : Type 0 where
  pub level : ℕ
  pub part : Walked
  pub walks : walk_of read level at ≡ Some part
  pub parted : IsParted test (content part)
  pub kept : IfSome best (λ p. test p ≡ false)
  pub rest : List Pair
  pub is : from_kept test (content w) ≡ from_kept test (content part ++ option_to_list best) ++ rest
  pub none : best ≡ None → rest ≡ []

-- the same, or it has been in a leaf, of which this was gathered
abbrev pub RunsIn : Places → (Pair → Bool) → Walked → Option ℕ → Option Pair → List Pair → Type 0
RunsIn read test w (Some at) best run = IsAhead read test w at best
RunsIn read test w None best run = IsRun test (content w) run

-- a search found the pairs that are left, from this place on in those that were gathered; or none is left
abbrev pub IsFound : (Pair → Bool) → List Pair → Option (List Pair × ℕ) → Type 0
IsFound test pairs None = from_kept test pairs ≡ []
IsFound test pairs (Some found) = (rest : List Pair) × (from_kept test pairs ≡ drop found.1 found.0 ++ rest)
