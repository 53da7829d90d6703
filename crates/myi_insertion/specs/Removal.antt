-- Taking a pair out of a list in order, and out of a tree.
use Rattle.std.specs.Prelude.{◌≡◌, ◌||◌, ℕ, Bool, false, if◌then◌else◌, List, [], ◌∷◌, Option, Some}
use Rattle.std.specs.List.{Contains}
use Rattle.std.specs.Ordering.{is_eq}
use Rattle.myi_base.specs.Holding.{Holding}
use Rattle.myi_keycache.specs.Caching.{Caching}
use Rattle.myi_keylist.specs.declared.pair.Pair.{Pair}
use Rattle.myi_keylist.specs.PairOrder.{pair_cmp}
use Rattle.myi_btree.specs.declared.place.Place.{Place}
use Rattle.myi_btree.specs.declared.place.Room.{Room}
use Rattle.myi_insertion.specs.CachedChanges.{Exchanges}
use Rattle.myi_insertion.specs.CachedTree.{IsTree}

-- whether one of the pairs has this key and row
abbrev pub has_pair : Pair → List Pair → Bool
has_pair p [] = false
has_pair p (q ∷ qs) = is_eq (pair_cmp p q) || has_pair p qs

-- the pairs without the first that has this key and row
abbrev pub without_pair : Pair → List Pair → List Pair
without_pair p [] = []
without_pair p (q ∷ qs) = if is_eq (pair_cmp p q) then qs else q ∷ without_pair p qs

-- In place of the tree on these pages stands one with these pairs, at this root; each page that was given up was one of the pages.
pub record Removed (place : Place) (old : Caching) (m : Holding) (olds : List ℕ) (before : Room) (told : Option Holding) (new : Caching) (after : Room) (root : Option ℕ) (xs : List Pair) : Type 0 where
  pub now : Holding
  pub held : told ≡ Some now
  pub pages : List ℕ
  pub tree : IsTree place new now root xs pages
  pub given : List ℕ
  pub changes : Exchanges place old m olds before new now pages after given
  pub own : (p : ℕ) → Contains given p → Contains olds p
