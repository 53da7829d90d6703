-- A tree of which a page is not written: what it is to have stands apart from it.
use Rattle.std.specs.Prelude.{◌≡◌, ◌^◌, ◌<◌, ◌≤◌, ℕ, suc, List, ◌∷◌, ◌++◌, length, take, drop, slice_index_or, Option, Some}
use Rattle.std.specs.List.{AllByRecursion, Contains}
use Rattle.std.specs.declared.cmp.Ordering.TheVariants.{Equal}
use Rattle.myi_base.specs.Holding.{Holding}
use Rattle.myi_keys.specs.Limits.{IsKey}
use Rattle.myi_keypage.specs.Page.{IsPlace}
use Rattle.myi_keycache.specs.Caching.{Caching, Stays}
use Rattle.myi_keylist.specs.declared.pair.Pair.{Pair}
use Rattle.myi_keylist.specs.PairOrder.{pair_cmp}
use Rattle.myi_btree.specs.declared.place.Place.{Place}
use Rattle.myi_btree.specs.declared.place.Room.{Room}
use Rattle.myi_btree.specs.Walk.{Places, Walked, content}
use Rattle.myi_btree.specs.CachedTrees.{node_lent}
use Rattle.myi_insertion.specs.declared.page.PageData.{PageData}
use Rattle.myi_insertion.specs.declared.removal.Pending.{Pending}
use Rattle.myi_insertion.specs.Strips.{StandFor, IsLeft, IsRight, Branches}
use Rattle.myi_insertion.specs.CachedChanges.{Exchanges, Changes}
use Rattle.myi_insertion.specs.CachedTree.{IsTree}
use Rattle.myi_insertion.specs.Written.{CanWrite}

-- pairs and children that can be written where there is a pair
pub record CanHold (rec_ref : ℕ) (pairs : List Pair) (children : List ℕ) : Type 0 where
  pub rows : AllByRecursion (λ (p : Pair). p.row < 256 ^ rec_ref) pairs
  pub keys : AllByRecursion (λ (p : Pair). IsKey p.key) pairs
  pub places : AllByRecursion IsPlace children
  pub branches : Branches pairs children

abbrev pub IsLeftOver : ℕ → PageData → Type 0
IsLeftOver rec_ref page = CanHold rec_ref page.pairs page.children.items

-- one pair that can be written
pub record IsOnePair (rec_ref : ℕ) (pairs : List Pair) : Type 0 where
  pub one : length pairs ≡ 1
  pub rows : AllByRecursion (λ (p : Pair). p.row < 256 ^ rec_ref) pairs
  pub keys : AllByRecursion (λ (p : Pair). IsKey p.key) pairs

-- The tree of a node, child `i` of which is not written, has these pairs, and below its root these pages: the trees to the left
-- of the child and to the right of it stand, and what the child is to have stands for the pairs between them.
pub record Opening (read : Places) (height i : ℕ) (pairs : List Pair) (children : List ℕ) (inner : List Pair) (kids : List ℕ) (xs : List Pair) (pages : List ℕ) : Type 0 where
  pub x : List Pair
  pub y : List Pair
  pub z : List Pair
  pub a : List ℕ
  pub below : List ℕ
  pub c : List ℕ
  pub left : IsLeft read height (take i children) (take i pairs) x a
  pub middle : StandFor read height inner kids y below
  pub right : IsRight read height (drop (suc i) children) (drop i pairs) z c
  pub content_is : xs ≡ (x ++ y) ++ z
  pub pages_are : pages ≡ (a ++ slice_index_or children i 0 ∷ below) ++ c

abbrev pub IsPending : Places → ℕ → Pending → List Pair → List ℕ → Type 0
IsPending read height p xs pages = Opening read height p.i p.page.now.pairs p.page.now.children.items p.inner.now.pairs p.inner.now.children.items xs pages

-- the node and the child of it can be written, but that the child may have no pair
pub record CanPend (rec_ref : ℕ) (p : Pending) : Type 0 where
  pub page : CanWrite rec_ref p.page.now.pairs p.page.now.children.items
  pub some : 0 < length p.page.now.children.items
  pub inside : p.i ≤ length p.page.now.pairs
  pub inner : IsLeftOver rec_ref p.inner.now

-- In place of the tree on these pages stands one of this height with these pairs, whose root is not written; each page that was
-- given up is one of those.
pub record Opened (place : Place) (old : Caching) (m : Holding) (olds : List ℕ) (before : Room) (told : Option Holding) (new : Caching) (after : Room) (at height : ℕ) (pairs : List Pair) (children : List ℕ) (xs : List Pair) (own : List ℕ) : Type 0 where
  pub now : Holding
  pub held : told ≡ Some now
  pub below : List ℕ
  pub stand : StandFor (node_lent place new now) height pairs children xs below
  pub given : List ℕ
  pub changes : Exchanges place old m olds before new now (at ∷ below) after given
  pub owned : (p : ℕ) → Contains given p → Contains own p

-- the same, of pairs that are those of a list but one, which is this pair
pub record TakenOut (p : Pair) (place : Place) (old : Caching) (m : Holding) (w : Walked) (before : Room) (told : Option Holding) (new : Caching) (after : Room) (at height : ℕ) (pairs : List Pair) (children : List ℕ) : Type 0 where
  pub front : List Pair
  pub taken : Pair
  pub back : List Pair
  pub was : content w ≡ front ++ taken ∷ back
  pub is : pair_cmp p taken ≡ Equal
  pub opened : Opened place old m w.pages before told new after at height pairs children (front ++ back) w.pages

-- the pair was sought among those of a tree, none of them is it, and nothing was put
pub record Sought (p : Pair) (place : Place) (old : Caching) (m : Holding) (w : Walked) (room : Room) (told : Option Holding) (new : Caching) : Type 0 where
  pub now : Holding
  pub held : told ≡ Some now
  pub stays : Stays old new m now
  pub changes : Changes place old m w.pages room new now w.pages room
  pub none : AllByRecursion (λ q. pair_cmp p q ≡ Equal → ⊥) (content w)

-- the root was written: in place of the pages stands a tree with these pairs; each page that was given up is one of those
pub record Planted (place : Place) (old : Caching) (m : Holding) (olds : List ℕ) (before : Room) (told : Option Holding) (new : Caching) (after : Room) (root : Option ℕ) (xs : List Pair) (own : List ℕ) : Type 0 where
  pub now : Holding
  pub held : told ≡ Some now
  pub pages : List ℕ
  pub tree : IsTree place new now root xs pages
  pub given : List ℕ
  pub changes : Exchanges place old m olds before new now pages after given
  pub owned : (p : ℕ) → Contains given p → Contains own p
