-- The steps of a change, of which each is told what files hold before and after it.
use Rattle.std.specs.Prelude.{◌≡◌, ◌⊎◌, ℕ, [], ◌∷◌, ◌++◌, List, Option, Some}
use Rattle.std.specs.List.{Contains}
use Rattle.myi_base.specs.Holding.{Holding}
use Rattle.myi_keycache.specs.Caching.{Caching, Stays}
use Rattle.myi_keylist.specs.declared.pair.Pair.{Pair}
use Rattle.myi_btree.specs.declared.place.Place.{Place}
use Rattle.myi_btree.specs.declared.place.Room.{Room}
use Rattle.myi_btree.specs.Walk.{Node, Walked, walk_of, content}
use Rattle.myi_btree.specs.CachedTrees.{node_lent}
use Rattle.myi_insertion.specs.Covers.{within, StillStands}
use Rattle.myi_insertion.specs.Filled.{below_root}
use Rattle.myi_insertion.specs.Halves.{IsLaid, IsKept, IsAlone, IsLone}
use Rattle.myi_insertion.specs.Settling.{IsPartly}
use Rattle.myi_insertion.specs.CachedChanges.{SparesLent, Changes, Stands}

-- a page was asked for and nothing was put, and the page is this node
pub record Got (place : Place) (old : Caching) (m : Holding) (pages : List ℕ) (room : Room) (told : Option Holding) (new : Caching) (at : ℕ) (node : Node) : Type 0 where
  pub now : Holding
  pub held : told ≡ Some now
  pub changes : Changes place old m pages room new now pages room
  pub stays : Stays old new m now
  pub was : node_lent place old m at ≡ Some node
  pub is : node_lent place new now at ≡ Some node

-- a node was written as one of the pages
pub record Wrote (place : Place) (old : Caching) (m : Holding) (pages : List ℕ) (room : Room) (told : Option Holding) (new : Caching) (at : ℕ) (node : Node) : Type 0 where
  pub now : Holding
  pub held : told ≡ Some now
  pub changes : Changes place old m pages room new now pages room
  pub spares : SparesLent (within at place.block_length) old m new now
  pub there : node_lent place new now at ≡ Some node

-- pairs are being written on pages, the next of which stands at a place
pub record Settling (place : Place) (old : Caching) (m : Holding) (olds : List ℕ) (before : Room) (told : Option Holding) (cache : Caching) (room : Room) (at height : ℕ) (xs : List Pair) (places : List ℕ) (separators pairs : List Pair) (children : List ℕ) : Type 0 where
  pub now : Holding
  pub held : told ≡ Some now
  pub part : IsPartly place.block_length (node_lent place old m) (node_lent place cache now) height xs olds before room at places separators pairs children
  pub changes : Changes place old m olds before cache now (part.done_pages ++ at ∷ part.rest_pages) room
  pub laid : (p : ℕ) → Contains part.done_pages p → IsLaid place xs (node_lent place old m) (node_lent place cache now) (below_root olds) p
  pub still : (p : ℕ) → Contains part.rest_pages p → Contains (below_root olds) p × StillStands (node_lent place old m) (node_lent place cache now) p

-- in place of these pages stand trees of this height with these pairs
pub record Settles (place : Place) (old : Caching) (m : Holding) (olds : List ℕ) (before : Room) (told : Option Holding) (new : Caching) (after : Room) (height : ℕ) (xs : List Pair) (places : List ℕ) (separators : List Pair) : Type 0 where
  pub now : Holding
  pub held : told ≡ Some now
  pub stands : Stands place old m olds before new now after height xs places separators

-- The same of a page that became several, from the pages below it: each page is one that a cut filled or one of those, which still
-- stands; where it was not cut, this node stands there.
pub record Lays (place : Place) (old : Caching) (m : Holding) (at : ℕ) (below : List ℕ) (before : Room) (told : Option Holding) (new : Caching) (after : Room) (node : Node) (height : ℕ) (xs : List Pair) (places : List ℕ) (separators : List Pair) : Type 0 where
  pub settles : Settles place old m (at ∷ below) before told new after height xs places separators
  pub laid : (p : ℕ) → Contains settles.stands.pages p → IsLaid place xs (node_lent place old m) (node_lent place new settles.now) below p ⊎ IsAlone (node_lent place new settles.now) at node places p

-- The same of a tree that became several: each page is one that a cut filled or one from below the root, of which no fewer bytes are
-- used; so it is with that of the root where it was not cut.
pub record PutsIn (place : Place) (old : Caching) (m : Holding) (olds : List ℕ) (before : Room) (told : Option Holding) (new : Caching) (after : Room) (root height : ℕ) (xs : List Pair) (places : List ℕ) (separators : List Pair) : Type 0 where
  pub settles : Settles place old m olds before told new after height xs places separators
  pub kept : (p : ℕ) → Contains settles.stands.pages p → IsKept place xs (node_lent place old m) (node_lent place new settles.now) (below_root olds) p ⊎ IsLone place (node_lent place old m) (node_lent place new settles.now) root places p

-- The same of a tree that may have been empty: the only page of it, where it is one, may be filled as it likes.
pub record Grafts (place : Place) (old : Caching) (m : Holding) (olds : List ℕ) (before : Room) (told : Option Holding) (new : Caching) (after : Room) (height : ℕ) (xs : List Pair) (places : List ℕ) (separators : List Pair) : Type 0 where
  pub settles : Settles place old m olds before told new after height xs places separators
  pub kept : (p : ℕ) → Contains settles.stands.pages p → IsKept place xs (node_lent place old m) (node_lent place new settles.now) (below_root olds) p ⊎ (places ≡ p ∷ [])

-- in place of these pages stands one tree with these pairs, and each page below its root is one that a cut filled or one of these
pub record Rooted (place : Place) (old : Caching) (m : Holding) (olds : List ℕ) (before : Room) (told : Option Holding) (new : Caching) (after : Room) (xs : List Pair) (root : ℕ) : Type 0 where
  pub now : Holding
  pub held : told ≡ Some now
  pub height : ℕ
  pub w : Walked
  pub walk : walk_of (node_lent place new now) height root ≡ Some w
  pub content_is : content w ≡ xs
  pub changes : Changes place old m olds before new now w.pages after
  pub laid : (p : ℕ) → Contains w.pages p → (p ≡ root) ⊎ IsLaid place xs (node_lent place old m) (node_lent place new now) olds p
