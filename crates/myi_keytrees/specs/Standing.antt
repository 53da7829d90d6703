-- For which lists of pairs the trees of an index file stand, a list for each key, and what a call does to that. Which bytes are pages
-- and free room is counted byte by byte, 1 for each page and each free range that a byte lies in.
use Rattle.std.specs.Prelude.{◌≡◌, ◌⊎◌, ◌+◌, ◌^◌, ◌≤◌, ℕ, Bool, List, [], ◌∷◌, slice_index_or, slice_set, Option, Some, IsTrue}
use Rattle.std.specs.List.{AllByRecursion}
use Rattle.std.specs.List.Sorted.{IsStrictlySortedBy}
use Rattle.myi_base.specs.Holding.{Holding, IfTold}
use Rattle.myi_keylist.specs.declared.pair.Pair.{Pair}
use Rattle.myi_keylist.specs.PairOrder.{pair_cmp, put_pair}
use Rattle.myi_keycache.specs.Kept.{AllWritten}
use Rattle.myi_keycache.specs.Caching.{Caching, pages_of, IsCurrent}
use Rattle.myi_btree.specs.declared.place.Place.{Place}
use Rattle.myi_btree.specs.Sizes.{IsPlaced}
use Rattle.myi_btree.specs.CachedTrees.{NoneMeets}
use Rattle.myi_insertion.specs.Covers.{cover, stock}
use Rattle.myi_insertion.specs.CachedChanges.{NoneInRoom, SparesLent}
use Rattle.myi_insertion.specs.CachedTree.{IsTree}
use Rattle.myi_insertion.specs.Removal.{without_pair}
use Rattle.myi_keytrees.specs.Trees.{Trees}

-- the list of a key, by its number
abbrev pub list_of : List (List Pair) → ℕ → List Pair
list_of lists key = slice_index_or lists key []

-- the lists with a pair put into that of a key
abbrev pub put_in : ℕ → Pair → List (List Pair) → List (List Pair)
put_in key pair lists = slice_set lists key (put_pair pair (list_of lists key))

-- the lists with a pair taken out of that of a key, where it is there
abbrev pub taken_out : ℕ → Pair → List (List Pair) → List (List Pair)
taken_out key pair lists = slice_set lists key (without_pair pair (list_of lists key))

-- how many of the pages of these trees have the byte
abbrev pub cover_each : List Place → List (List ℕ) → ℕ → ℕ
cover_each [] pages x = 0
cover_each (place ∷ places) [] x = 0
cover_each (place ∷ places) (own ∷ pages) x = cover place.block_length own x + cover_each places pages x

-- a tree has just these pairs, each once and in order, on these pages; no page that is kept, but the one of the same place and length,
-- has a byte of one of them
pub record HoldsPairs (cache : Caching) (m : Holding) (place : Place) (pairs : List Pair) (pages : List ℕ) : Type 0 where
  pub tree : IsTree place cache m place.root pairs pages
  pub ascend : IsStrictlySortedBy pair_cmp pairs
  pub meets : NoneMeets place cache pages

-- each tree has the list of its key
abbrev pub HoldLists : Caching → Holding → List Place → List (List Pair) → List (List ℕ) → Type 0
HoldLists cache m [] lists pages = (lists ≡ []) × (pages ≡ [])
HoldLists cache m (place ∷ places) [] pages = ⊥
HoldLists cache m (place ∷ places) (pairs ∷ lists) [] = ⊥
HoldLists cache m (place ∷ places) (pairs ∷ lists) (own ∷ pages) = HoldsPairs cache m place pairs own × HoldLists cache m places lists pages

-- Where the files hold this, the trees stand for these lists. Each has pages of a length that can be; the pages of all trees and the
-- room have just the bytes of `own`, each once; the file is as the last call of the cache left it, and no page that is kept has a byte
-- of the room, but a free page itself.
pub record Stand (trees : Trees) (m : Holding) (own : ℕ → ℕ) (lists : List (List Pair)) : Type 0 where
  pub placed : AllByRecursion IsPlaced trees.places
  pub pages : List (List ℕ)
  pub current : IsCurrent trees.cache m
  pub hold : HoldLists trees.cache m trees.places lists pages
  pub spare : NoneInRoom trees.cache trees.room
  pub owned : (x : ℕ) → cover_each trees.places pages x + stock trees.room x ≡ own x
  pub once : (x : ℕ) → own x ≤ 1

-- After a call the trees stand for these lists, on pages and room with the bytes that they had; of ranges that have none of these bytes
-- the same is lent.
pub record StandThen (old : Trees) (m : Holding) (own : ℕ → ℕ) (told : Option Holding) (new : Trees) (lists : List (List Pair)) : Type 0 where
  pub now : Holding
  pub held : told ≡ Some now
  pub stand : Stand new now own lists
  pub lent : SparesLent own old.cache m new.cache now

-- Where files tell what they hold, and the trees stand for some lists, this holds of what the files hold, the bytes of pages and room,
-- and the lists.
abbrev pub IfStand : Option Holding → Trees → (Holding → (ℕ → ℕ) → List (List Pair) → Type 0) → Type 0
IfStand told trees P = IfTold told (λ m. (own : ℕ → ℕ) (lists : List (List Pair)) → Stand trees m own lists → P m own lists)

-- where the trees stood for some lists, they still do
abbrev pub StillStand : Option Holding → Option Holding → Trees → Trees → Type 0
StillStand told next old new = IfStand told old (λ m own lists. StandThen old m own next new lists)

-- trees may be gone through: the cache keeps no unwritten page, or the files can be written and the trees stand for some lists
abbrev pub CanSearch : Bool → Option Holding → Trees → Type 0
CanSearch writable told trees = AllWritten (pages_of trees.cache) ⊎ (IsTrue writable × IfTold told (λ m. (own : ℕ → ℕ) × (lists : List (List Pair)) × Stand trees m own lists))

-- A count rose by no more than a number of levels that a tree of so many pairs can have, and one.
pub record RoseByLevels (pairs before after : ℕ) : Type 0 where
  pub levels : ℕ
  pub fit : 2 ^ levels ≤ pairs + 1
  pub few : after ≤ before + (levels + 1)
