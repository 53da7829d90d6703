-- A tree that is changed in what a key cache lends: when its pages may be changed and others taken from the room, and what that
-- does to the cache, the room and other ranges.
use Rattle.std.specs.Prelude.{◌≡◌, ◌⊎◌, ◌+◌, ◌<◌, ◌≤◌, ℕ, true, List, [], Some}
use Rattle.std.specs.List.{AllByRecursion, Contains}
use Rattle.myi_base.specs.Holding.{Holding, OthersStay}
use Rattle.myi_keycache.specs.Kept.{Page, is_kept, NoOtherMeets}
use Rattle.myi_keycache.specs.Caching.{pages_of, Caching, lends, IsCurrent}
use Rattle.myi_keylist.specs.declared.pair.Pair.{Pair}
use Rattle.myi_btree.specs.declared.place.Place.{Place}
use Rattle.myi_btree.specs.declared.place.Room.{Room}
use Rattle.myi_btree.specs.Building.{EndBefore}
use Rattle.myi_btree.specs.CachedTrees.{node_lent, NoneMeets}
use Rattle.myi_insertion.specs.Strips.{IsStrip}
use Rattle.myi_insertion.specs.Covers.{within, cover, stock, AreClear}

-- no page that is kept, but the one of the same place and length, has a byte of a free page, and none ends behind the room's end
pub record NoneInRoom (cache : Caching) (room : Room) : Type 0 where
  pub free : AllByRecursion (λ (r : ℕ × ℕ). 0 < r.1 → NoOtherMeets (is_kept (pages_of cache)) r.0 r.1) room.free
  pub end : EndBefore (pages_of cache) room.end

-- These pages may be changed, and pages be taken from the room: no page that is kept, but the one of the same place and length, has a
-- byte of them, and no byte lies in two of them, or in one and in the room.
pub record CanChange (place : Place) (cache : Caching) (m : Holding) (pages : List ℕ) (room : Room) : Type 0 where
  pub current : IsCurrent cache m
  pub meets : NoneMeets place cache pages
  pub spare : NoneInRoom cache room
  pub clear : AreClear place.block_length pages room

-- what was lent of ranges that have none of these bytes is lent of them afterwards
abbrev pub SparesLent : (ℕ → ℕ) → Caching → Holding → Caching → Holding → Type 0
SparesLent touched old m new n = (p len : ℕ) (x : List ℕ) → 0 < len → ((b : ℕ) → within p len b + touched b ≤ 1) → lends old m p len ≡ Some x → lends new n p len ≡ Some x

-- each page that is kept was kept before, or is one of these or of those
abbrev pub AddsPages : ℕ → List ℕ → List ℕ → List Page → List Page → Type 0
AddsPages block pages given old new = (p n : ℕ) → is_kept new p n ≡ true → (is_kept old p n ≡ true) ⊎ ((n ≡ block) × (Contains pages p ⊎ Contains given p))

-- a page was one of these, or it was taken from the room
abbrev pub IsOld : ℕ → List ℕ → Room → ℕ → Type 0
IsOld block pages room p = Contains pages p ⊎ (Contains room.free (p, block) ⊎ (room.end ≤ p))

-- Pages and a room became others, and some pages were given up: together they have the bytes that they had. Each page of before is one
-- of the pages or was given up; each that was given up is free, or one of the pages again; each that is free was free or was given up,
-- and each that was free is free or one of the pages. Of ranges that have none of these bytes the same is lent, and no page came to be
-- kept but the pages and those given up.
pub record Exchanges (place : Place) (old : Caching) (m : Holding) (olds : List ℕ) (before : Room) (new : Caching) (n : Holding) (news : List ℕ) (after : Room) (given : List ℕ) : Type 0 where
  pub balance : (x : ℕ) → cover place.block_length news x + stock after x ≡ cover place.block_length olds x + stock before x
  pub current : IsCurrent new n
  pub lent : SparesLent (λ x. cover place.block_length olds x + stock before x) old m new n
  pub added : AddsPages place.block_length news given (pages_of old) (pages_of new)
  pub origin : (p : ℕ) → Contains news p → IsOld place.block_length olds before p
  pub stay : (p : ℕ) → Contains olds p → Contains news p ⊎ Contains given p
  pub given_up : (p : ℕ) → Contains given p → IsOld place.block_length olds before p × (Contains news p ⊎ Contains after.free (p, place.block_length))
  pub free : (r : ℕ × ℕ) → Contains after.free r → Contains before.free r ⊎ ((r.1 ≡ place.block_length) × Contains given r.0)
  pub rest : (r : ℕ × ℕ) → Contains before.free r → Contains after.free r ⊎ ((r.1 ≡ place.block_length) × Contains news r.0)
  pub end : before.end ≤ after.end
  pub name : new.name ≡ old.name
  pub others : OthersStay old.name m n

-- Pages and a room became others, and no page was given up: none was lost, and each page that is free was free before.
abbrev pub Changes : Place → Caching → Holding → List ℕ → Room → Caching → Holding → List ℕ → Room → Type 0
Changes place old m olds before new n news after = Exchanges place old m olds before new n news after []

-- in place of these pages stand trees of this height with these pairs
pub record Stands (place : Place) (old : Caching) (m : Holding) (olds : List ℕ) (before : Room) (new : Caching) (n : Holding) (after : Room) (height : ℕ) (xs : List Pair) (places : List ℕ) (separators : List Pair) : Type 0 where
  pub pages : List ℕ
  pub strip : IsStrip (node_lent place new n) height places separators xs pages
  pub changes : Changes place old m olds before new n pages after
