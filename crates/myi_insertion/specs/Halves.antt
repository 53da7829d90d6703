-- What a cut leaves of a page, and what becomes of the pages of a tree where one is cut.
use Rattle.std.specs.Prelude.{◌≡◌, ◌⊎◌, ◌+◌, ◌*◌, ◌/◌, ◌≤◌, Bool, ℕ, List, [], ◌∷◌, Some}
use Rattle.std.specs.List.{Contains}
use Rattle.myi_keypage.specs.Fitting.{used_length}
use Rattle.myi_keylist.specs.declared.pair.Pair.{Pair}
use Rattle.myi_btree.specs.declared.place.Place.{Place}
use Rattle.myi_btree.specs.Nodes.{entries_of}
use Rattle.myi_btree.specs.Walk.{Node, Places}
use Rattle.myi_insertion.specs.Covers.{StillStands}
use Rattle.myi_insertion.specs.Filled.{TakeAtMost, IsFilled, LosesNone}

-- some of these pairs use at least half of a page, less two of the longest entries
abbrev pub UseHalf : Place → Bool → List Pair → List Pair → Type 0
UseHalf place node all some = (most : ℕ) → TakeAtMost place most all → place.block_length / 2 ≤ used_length place.rec_ref node (entries_of some) + 2 * most

-- a page is so filled, by the longest entry of these pairs
abbrev pub IsHalf : Place → List Pair → Places → ℕ → Type 0
IsHalf place xs read at = (most : ℕ) → TakeAtMost place most xs → IsFilled place most read at

-- a page is so filled, or it is one of these and still stands
abbrev pub IsLaid : Place → List Pair → Places → Places → List ℕ → ℕ → Type 0
IsLaid place xs old new pages at = IsHalf place xs new at ⊎ (Contains pages at × StillStands old new at)

-- a page is so filled, or it is one of these, and no fewer bytes of it are used
abbrev pub IsKept : Place → List Pair → Places → Places → List ℕ → ℕ → Type 0
IsKept place xs old new pages at = IsHalf place xs new at ⊎ (Contains pages at × LosesNone place old new at)

-- a page is the only one of these, and this node stands there
pub record IsAlone (new : Places) (first : ℕ) (node : Node) (places : List ℕ) (at : ℕ) : Type 0 where
  pub is : at ≡ first
  pub alone : places ≡ first ∷ []
  pub there : new first ≡ Some node

-- a page is the only one of these, and no fewer bytes of it are used
pub record IsLone (place : Place) (old new : Places) (first : ℕ) (places : List ℕ) (at : ℕ) : Type 0 where
  pub is : at ≡ first
  pub alone : places ≡ first ∷ []
  pub more : LosesNone place old new first
