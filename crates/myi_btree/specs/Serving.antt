-- How the cache serves a walk: the places that it goes into show what they showed when it began.
use Rattle.std.specs.Prelude.{◌≡◌, ◌⊎◌, ℕ, ◌+◌, ◌≤◌, Bool, true, List, length, Option, Some}
use Rattle.std.specs.List.{list_all}
use Rattle.std.specs.List.Sorted.{IsStrictlySortedBy}
use Rattle.std.specs.Ordering.{nat_cmp}
use Rattle.myi_base.specs.Holding.{Holding}
use Rattle.myi_keycache.specs.Kept.{is_unwritten, NoOtherMeets, ChangesNone, AllWritten}
use Rattle.myi_keycache.specs.Caching.{pages_of, Caching, IsCurrent, Stays}
use Rattle.myi_btree.specs.declared.place.Place.{Place}
use Rattle.myi_btree.specs.declared.visited.Visited.{Visited}
use Rattle.myi_btree.specs.Walk.{Node, Places}
use Rattle.myi_btree.specs.Visited.{HasPlaces}
use Rattle.myi_btree.specs.CachedTrees.{node_lent, AddsAmong, IsClosed}

-- the cache and the files as they were when a walk began, and the places that it may go into
pub record View : Type 0 where
  pub first : Caching
  pub start : Holding
  pub asked : ℕ → Bool

abbrev pub view : Caching → Holding → (ℕ → Bool) → View
view first start asked = record { first = first; start = start; asked = asked }

-- what stood at the places when the walk began
abbrev pub nodes_at : Place → View → Places
nodes_at place v = node_lent place v.first v.start

-- Now the cache lends at each of these places what it lent when the walk began. There is a node at each, or else the
-- cache kept no unwritten page. The children of each page there may be asked for too. Each page that is kept was kept
-- then, or is one of these.
pub record Serves (place : Place) (v : View) (told : Option Holding) (cache : Caching) : Type 0 where
  pub closed : IsClosed (nodes_at place v) v.asked
  pub current : IsCurrent v.first v.start
  pub apart : (at : ℕ) → v.asked at ≡ true → NoOtherMeets (is_unwritten (pages_of v.first)) at place.block_length
  pub there : AllWritten (pages_of v.first) ⊎ ((at : ℕ) → v.asked at ≡ true → (node : Node) × (nodes_at place v at ≡ Some node))
  pub now : Holding
  pub held : told ≡ Some now
  pub name : cache.name ≡ v.first.name
  pub unwritten : ChangesNone (pages_of v.first) (pages_of cache)
  pub stays : Stays v.first cache v.start now
  pub added : AddsAmong place v.asked (pages_of v.first) (pages_of cache)
  pub same : AllWritten (pages_of v.first) → now ≡ v.start

-- a walk may ask for the page at a place
pub record CanAsk (place : Place) (v : View) (told : Option Holding) (cache : Caching) (at : ℕ) : Type 0 where
  pub serves : Serves place v told cache
  pub asked : v.asked at ≡ true

-- a walk that met these pages goes on: each of them may be asked for, and they stand in order
pub record IsServed (place : Place) (v : View) (told : Option Holding) (cache : Caching) (met : List ℕ) : Type 0 where
  pub serves : Serves place v told cache
  pub named : list_all v.asked met ≡ true
  pub ascends : IsStrictlySortedBy nat_cmp met

abbrev pub GoesOn : Place → View → Option Holding → Caching → Visited → Type 0
GoesOn place v told cache visited = IsServed place v told cache visited.places.keys

-- No more pages were read than stand at different places that the walk may ask for: those that were met, and of a page
-- that could not be gone into the place that was tried.
pub record ReadsAsked (place : Place) (v : View) (told : Option Holding) (cache : Caching) (before after : ℕ) (met : List ℕ) : Type 0 where
  pub tried : List ℕ
  pub served : IsServed place v told cache tried
  pub few : after + length met ≤ before + length tried

-- a walk that went into these pages may go into the page at a place
pub record CanEnter (place : Place) (v : View) (told : Option Holding) (cache : Caching) (at : ℕ) (seen : List ℕ) (visited : Visited) : Type 0 where
  pub goes : GoesOn place v told cache visited
  pub asked : v.asked at ≡ true
  pub has : HasPlaces visited.places.keys seen
