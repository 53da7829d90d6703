-- A tree in what a key cache lends, and the tree with a pair put in.
use Rattle.std.specs.Prelude.{◌≡◌, ℕ, List, [], Option, Some, None}
use Rattle.myi_base.specs.Holding.{Holding}
use Rattle.myi_keycache.specs.Caching.{Caching}
use Rattle.myi_keylist.specs.declared.pair.Pair.{Pair}
use Rattle.myi_btree.specs.declared.place.Place.{Place}
use Rattle.myi_btree.specs.declared.place.Room.{Room}
use Rattle.myi_btree.specs.Walk.{Walked, walk_of, content}
use Rattle.myi_btree.specs.CachedTrees.{node_lent}
use Rattle.myi_insertion.specs.CachedChanges.{Changes}

-- the tree at a root has these pairs, on these pages; without a root it has none
abbrev pub IsTree : Place → Caching → Holding → Option ℕ → List Pair → List ℕ → Type 0
IsTree place cache m None xs pages = (xs ≡ []) × (pages ≡ [])
IsTree place cache m (Some root) xs pages = (height : ℕ) × (w : Walked) × (walk_of (node_lent place cache m) height root ≡ Some w) × (xs ≡ content w) × (pages ≡ w.pages)

-- in place of the tree on these pages stands one with these pairs, at this root
pub record Inserted (place : Place) (old : Caching) (m : Holding) (olds : List ℕ) (before : Room) (told : Option Holding) (new : Caching) (after : Room) (root : Option ℕ) (xs : List Pair) : Type 0 where
  pub now : Holding
  pub held : told ≡ Some now
  pub pages : List ℕ
  pub tree : IsTree place new now root xs pages
  pub changes : Changes place old m olds before new now pages after
