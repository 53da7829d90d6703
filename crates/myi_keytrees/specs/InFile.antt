-- The trees of all keys in the bytes of an index file: the walk of each tree from its root, with what its pages may not meet.
use Rattle.std.specs.Prelude.{◌≡◌, ◌+◌, ◌*◌, ◌<◌, ◌≤◌, ℕ, true, List, [], ◌∷◌, ◌++◌, length, map, Option, Some, None}
use Rattle.std.specs.List.{AllByRecursion}
use Rattle.std.specs.List.Sorted.{IsStrictlySortedBy}
use Rattle.myi_base.specs.Ranges.{Range, is_apart}
use Rattle.myi_keycache.specs.Lent.{bytes_at}
use Rattle.myi_keylist.specs.declared.pair.Pair.{Pair}
use Rattle.myi_keylist.specs.PairOrder.{pair_cmp}
use Rattle.myi_btree.specs.declared.place.Place.{Place}
use Rattle.myi_btree.specs.Walk.{Walked, content}
use Rattle.myi_btree.specs.Nodes.{node_at}
use Rattle.myi_btree.specs.Visit.{page_range, HasWalk}
use Rattle.myi_insertion.specs.Covers.{stock}
use Rattle.myi_keytrees.specs.Trees.{Trees}
use Rattle.myi_keytrees.specs.Standing.{cover_each}

-- the walk of a tree without a root
abbrev pub no_walk : Walked
no_walk = record { pairs = []; pages = [] }

-- the ranges of the pages of a walk
abbrev pub pages_on : Place → Walked → List Range
pages_on place w = map (page_range place.block_length) w.pages

-- the pages of a walk have no byte of these ranges
abbrev pub AreFree : List Range → List Range → Type 0
AreFree busy pages = AllByRecursion (λ page. is_apart page busy ≡ true) pages

-- The tree at a place has this walk from its root in the bytes of the file, and its pages have no byte of a busy range or of each other.
abbrev pub HasWalkApart : Place → List ℕ → Option ℕ → List Range → Walked → Type 0
HasWalkApart place file None busy w = w ≡ no_walk
HasWalkApart place file (Some root) busy w = HasWalk place.block_length (node_at place.rec_ref place.block_length file) root w × AreFree busy (pages_on place w)

-- The trees at these places have these walks, apart from busy ranges: for each tree the pages of those before it are busy too.
abbrev pub HaveWalks : List ℕ → List Range → List Place → List Walked → Type 0
HaveWalks file busy [] walks = walks ≡ []
HaveWalks file busy (place ∷ places) [] = ⊥
HaveWalks file busy (place ∷ places) (w ∷ walks) = HasWalkApart place file place.root busy w × HaveWalks file (busy ++ pages_on place w) places walks

-- no page of these walks ends behind a place
abbrev pub EndAt : ℕ → List Place → List Walked → Type 0
EndAt end [] walks = Unit {0}
EndAt end (place ∷ places) [] = Unit {0}
EndAt end (place ∷ places) (w ∷ walks) = AllByRecursion (λ p. p + place.block_length ≤ end) w.pages × EndAt end places walks

-- each of these lists has its pairs once and in order
abbrev pub AreAscending : List (List Pair) → Type 0
AreAscending lists = AllByRecursion (λ pairs. IsStrictlySortedBy pair_cmp pairs) lists

-- the pairs of each walk
abbrev pub contents_of : List Walked → List (List Pair)
contents_of walks = map content walks

-- how many bytes the pages of these trees have
abbrev pub bytes_of_pages : List Place → List (List ℕ) → ℕ
bytes_of_pages [] pages = 0
bytes_of_pages (place ∷ places) [] = 0
bytes_of_pages (place ∷ places) (own ∷ pages) = place.block_length * length own + bytes_of_pages places pages

-- the pages of each walk
abbrev pub pages_of_walks : List Walked → List (List ℕ)
pages_of_walks walks = map (λ (w : Walked). w.pages) walks

-- 1 for a byte of a page of these walks or of the room
abbrev pub bytes_owned : Trees → List Walked → ℕ → ℕ
bytes_owned trees walks x = cover_each trees.places (pages_of_walks walks) x + stock trees.room x

-- how many bytes free pages have
abbrev pub bytes_of_free : List (ℕ × ℕ) → ℕ
bytes_of_free [] = 0
bytes_of_free (r ∷ free) = r.1 + bytes_of_free free

-- Each tree stands in the bytes of the file, behind its first so many bytes, which are no page, and has the list of its key, on these pages.
pub record StandIn (file : List ℕ) (first end : ℕ) (places : List Place) (lists : List (List Pair)) (pages : List (List ℕ)) : Type 0 where
  pub walks : List Walked
  pub have : HaveWalks file ((0, first) ∷ []) places walks
  pub contents : contents_of walks ≡ lists
  pub pages_are : pages_of_walks walks ≡ pages
  pub inside : EndAt (length file) places walks
  pub before : EndAt end places walks

-- of each range that lies behind a place and before another the files have the same bytes, where the first file has them
abbrev pub KeepsBetween : ℕ → ℕ → List ℕ → List ℕ → Type 0
KeepsBetween first end file other = (at len : ℕ) (bytes : List ℕ) → 0 < len → first ≤ at → at + len ≤ end → bytes_at file at len ≡ Some bytes → bytes_at other at len ≡ Some bytes
