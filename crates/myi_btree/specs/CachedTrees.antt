-- What stands at the places of an index file, by what its key cache lends, when a tree there may be gone through, and
-- what that does to the cache.
use Rattle.std.specs.Prelude.{◌≡◌, ◌⊎◌, ℕ, ◌+◌, ◌-◌, ◌%◌, ◌^◌, ◌≤◌, ◌==◌, min, Bool, true, List, [], length, Option, Some, None, IsTrue, if◌then◌else◌}
use Rattle.std.specs.List.{AllByRecursion, list_all, list_any}
use Rattle.myi_base.specs.Ranges.{are_apart}
use Rattle.myi_base.specs.Holding.{Holding, IfTold, Told, OthersStay}
use Rattle.myi_keycache.specs.Kept.{Page, is_kept, NoOtherMeets, ChangesNone, AllWritten}
use Rattle.myi_keycache.specs.Caching.{pages_of, Caching, lends, IsCurrent}
use Rattle.myi_keycache.specs.Counts.{raised}
use Rattle.myi_btree.specs.declared.place.Place.{Place}
use Rattle.myi_btree.specs.Walk.{◌>>=◌, Node, Places, Walked}
use Rattle.myi_btree.specs.Nodes.{node_in}
use Rattle.myi_btree.specs.Visit.{page_range, HasWalk}

-- at a multiple of 1024 the node that the bytes lent are, and else none
unfoldable pub node_lent : Place → Caching → Holding → Places
node_lent place cache m at = if at % 1024 == 0 then lends cache m at place.block_length >>= node_in place.rec_ref else None

-- no page that is kept, but the one of the same place and length, has a byte of one of these pages
abbrev pub NoneMeets : Place → Caching → List ℕ → Type 0
NoneMeets place cache pages = AllByRecursion (λ at. NoOtherMeets (is_kept (pages_of cache)) at place.block_length) pages

-- the pages of a tree's walk, which are none where it has no root
abbrev pub HasPages : Place → Caching → Holding → Option ℕ → List ℕ → Type 0
HasPages place cache m None pages = pages ≡ []
HasPages place cache m (Some root) pages = (w : Walked) × HasWalk place.block_length (node_lent place cache m) root w × (pages ≡ w.pages)

-- a tree has a walk in what the cache lends, and no other page that is kept meets a page of it
abbrev pub IsClear : Place → Caching → Holding → Option ℕ → Type 0
IsClear place cache m None = Unit {0}
IsClear place cache m (Some root) = (w : Walked) × HasWalk place.block_length (node_lent place cache m) root w × NoneMeets place cache w.pages

-- a page may be asked for: the files can be written, or the cache keeps no unwritten page
abbrev pub MayGet : Bool → Caching → Type 0
MayGet writable cache = IsTrue writable ⊎ AllWritten (pages_of cache)

-- a tree may be gone through: the cache keeps no unwritten page, or the files can be written and the tree is clear
abbrev pub CanWalk : Bool → Option Holding → Place → Caching → Type 0
CanWalk writable told place cache = AllWritten (pages_of cache) ⊎ (IsTrue writable × IfTold told (λ m. IsCurrent cache m → IsClear place cache m place.root))

-- each page that is kept was kept before, or is a page of the tree at one of these places
abbrev pub AddsAmong : Place → (ℕ → Bool) → List Page → List Page → Type 0
AddsAmong place asked old new = (p n : ℕ) → is_kept new p n ≡ true → (is_kept old p n ≡ true) ⊎ ((n ≡ place.block_length) × (asked p ≡ true))

-- where a page stands at a named place, the places of its children are named
abbrev pub IsClosed : Places → (ℕ → Bool) → Type 0
IsClosed read named = (place : ℕ) (node : Node) → named place ≡ true → read place ≡ Some node → list_all named node.children ≡ true

-- the root is named, where there is one
abbrev pub IsRootNamed : Option ℕ → (ℕ → Bool) → Type 0
IsRootNamed None named = Unit {0}
IsRootNamed (Some root) named = named root ≡ true

-- Each page that is kept was kept before, or is a page of the tree at a place that is named from the root on: by each
-- naming of places that names the root and the children of each page that stands at a named place.
abbrev pub AddsNamed : Place → Caching → Holding → Caching → Type 0
AddsNamed place old m new = (named : ℕ → Bool) → IsRootNamed place.root named → IsClosed (node_lent place old m) named → AddsAmong place named (pages_of old) (pages_of new)

-- whether a place is one of these
abbrev pub is_among : List ℕ → ℕ → Bool
is_among places at = list_any (λ p. p == at) places

-- each page that is kept was kept before, or is a page of the tree's walk, where it has one
abbrev pub AddsItsOwn : Place → Caching → Holding → Caching → Type 0
AddsItsOwn place old m new = (pages : List ℕ) → HasPages place old m place.root pages → AddsAmong place (is_among pages) (pages_of old) (pages_of new)

-- No more was read than places are named from the root on: than there are in any list that names the root and the children
-- of each page that stands at a place of it.
abbrev pub ReadsOnce : Place → Caching → Holding → ℕ → ℕ → Type 0
ReadsOnce place cache m before after = (places : List ℕ) → IsRootNamed place.root (is_among places) → IsClosed (node_lent place cache m) (is_among places) → after ≤ before + length places

-- a counter rose by a number, up to the end of its type
abbrev pub RoseBy : ℕ → ℕ → ℕ → Type 0
RoseBy n before after = min after (2 ^ 64 - 1) ≡ raised n before

-- as many read requests were counted as the tree's walk has pages
abbrev pub CountsPages : Place → Caching → Holding → Caching → Type 0
CountsPages place old m new = (pages : List ℕ) → HasPages place old m place.root pages → RoseBy (length pages) old.counters.read_requests new.counters.read_requests

-- no page of a tree at one of these places has a byte of a page of another tree at one of those
abbrev pub AreApart : Place → List ℕ → Place → List ℕ → Type 0
AreApart one pages other others = AllByRecursion (λ p. AllByRecursion (λ at. are_apart (page_range one.block_length p) (page_range other.block_length at) ≡ true) others) pages

-- the cache and the files after calls that put nothing: of the counters of requests only that of reads may have risen, no
-- page became unwritten, files of other names hold what they held, and where all pages were written so do all files
pub record ReadsOnly (before after : Option Holding) (old new : Caching) : Type 0 where
  pub name : new.name ≡ old.name
  pub setup : new.setup ≡ old.setup
  pub write_requests : new.counters.write_requests ≡ old.counters.write_requests
  pub requests : (n : ℕ) × RoseBy n old.counters.read_requests new.counters.read_requests
  pub unwritten : ChangesNone (pages_of old) (pages_of new)
  pub clean : AllWritten (pages_of old) → after ≡ before
  pub others : Told before after (OthersStay old.name)
