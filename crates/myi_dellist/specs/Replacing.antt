-- A row that is put in the place of another, whose blocks it takes first (MySQL Internals Manual, "MyISAM Dynamic Data File
-- Layout": an updated row keeps its blocks; what is released of them, and in which order, is this project's own).
use Rattle.std.specs.Prelude.{◌≡◌, ℕ, ◌+◌, ◌-◌, ◌%◌, ◌^◌, ◌<◌, ◌≤◌, ◌⊎◌, min, true, nat_lt, nat_le, if◌then◌else◌, List, [], ◌∷◌, ◌++◌, length, sum_by, Option, Some, Ok, Err}
use Rattle.std.specs.List.{AllByRecursion, flat_map}
use Rattle.myi_frames.specs.declared.head.Head.{Head}
use Rattle.myi_base.specs.Holding.{Holding, bytes_of}
use Rattle.myi_frames.specs.Block.{Block}
use Rattle.myi_frames.specs.Sizes.{least_size}
use Rattle.myi_dellist.specs.declared.pieces.Piece.{Piece}
use Rattle.myi_dellist.specs.declared.rows.Replaced.{Replaced}
use Rattle.myi_dellist.specs.Areas.{Area, AreApart, AreInside}
use Rattle.myi_dellist.specs.Releasing.{IsFreeable}
use Rattle.myi_dellist.specs.Freeing.{hole_in, Becomes}
use Rattle.myi_dellist.specs.Placing.{Taking, Placing, take_last, take_from, own_parts, own_areas, areas_of, sizes_of, update}
use Rattle.myi_dellist.specs.FreeList.{ListState, HasHoles}
use Rattle.myi_dellist.specs.Rows.{AreListedBehind, PutsRow, most_end, row_written}
use Rattle.myi_dellist.specs.Chains.{IsRowIn, IsBroken, areas_in, StandsIn}
use Rattle.myi_dellist.specs.Putting.{PutsBy, BadBy, LongBy, ends_of}
use Rattle.myi_dellist.specs.Several.{parts_of, heads_in, heads_written}

-- what a row takes of the blocks of the row in whose place it is put
abbrev pub own_taking : ℕ → List Area → Taking
own_taking len own = take_from len true len (own_areas len own)

-- what is released of them then, in this order
abbrev pub own_released : Taking → List Area
own_released t = flat_map parts_of (t.spare ++ t.unused)

-- where the list begins once these areas are released
abbrev pub head_after : Option ℕ → List Area → Option ℕ
head_after head [] = head
head_after head (a ∷ areas) = head_after (Some a.at) areas

-- In a file that has a list, a row ends in one of these blocks of the row in whose place it is put, and the headers of deleted
-- blocks are those that releases of what it leaves of them write.
pub record FitsInOwn (l k : ListState) (row d : List ℕ) (own holes : List Area) (heads : List Head) : Type 0 where
  pub some : 0 < length row
  pub few : length row < 2 ^ 32
  pub long : length d ≡ l.end
  pub aligned : l.end % 4 ≡ 0
  pub short : l.end < 2 ^ 64
  pub has : HasHoles l holes d
  pub free : AllByRecursion IsFreeable own
  pub inside : AreInside l.end own
  pub apart : AreApart (own ++ holes)
  pub listed : AreListedBehind own holes d
  pub none : (own_taking (length row) own).left ≡ 0
  pub found : heads_in (hole_in d) l.head (own_released (own_taking (length row) own)) ≡ Ok heads
  pub state : k ≡ record l { head = head_after l.head (own_released (own_taking (length row) own)) }

-- the file's bytes once the row's blocks are written, and then those headers
abbrev pub own_bytes : List ℕ → List Area → List Head → List ℕ → List ℕ
own_bytes row own heads d = heads_written heads (row_written (own_taking (length row) own).pieces row d)

-- ---- a row that is put in the place of another, by what stands in the file

-- what one block of the other row is in a row of so many bytes
abbrev pub parts_for : ℕ → Area → List Area
parts_for len a = if nat_lt len (2 ^ 24) then a ∷ [] else own_parts a

-- what its last block in an area leaves over of it
abbrev pub last_taking : ℕ → Area → Taking
last_taking left a = take_last (nat_le (least_size left + 20) a.size) left a []

-- the row ends in blocks of the other one
pub record EndsInOwn (l k : ListState) (own : List Piece) (row : List ℕ) (m n : Holding) : Type 0 where
  pub none : (own_taking (length row) (areas_of own)).left ≡ 0
  pub heads : List Head
  pub found : heads_in (hole_in (bytes_of l.name m)) l.head (own_released (own_taking (length row) (areas_of own))) ≡ Ok heads
  pub becomes : Becomes l.name (own_bytes row (areas_of own) heads (bytes_of l.name m)) m n
  pub head : k.head ≡ head_after l.head (own_released (own_taking (length row) (areas_of own)))
  pub end : k.end ≡ l.end

-- it fills them, and goes on in deleted blocks and behind the end
pub record FillsOwn (l k : ListState) (own : List Piece) (row : List ℕ) (m n : Holding) : Type 0 where
  pub some : 0 < (own_taking (length row) (areas_of own)).left
  pub puts : PutsBy (own_areas (length row) (areas_of own)) l.name (ends_of l) row (ends_of k) m n

pub record Rewrites (l k : ListState) (at : ℕ) (row : List ℕ) (m n : Holding) : Type 0 where
  pub own : List Piece
  pub row_is : IsRowIn (bytes_of l.name m) at own
  pub ends : EndsInOwn l k own row m n ⊎ FillsOwn l k own row m n

abbrev pub RewritesRow : ListState → ListState → ℕ → List ℕ → Holding → Holding → Type 0
RewritesRow l k at row m n = length (bytes_of l.name m) ≡ l.end → Rewrites l k at row m n

-- ---- what refuses it

-- behind the blocks of the row that is there, a block that is read is not what the list needs
pub record OwnBad (d : List ℕ) (head : Option ℕ) (at len p : ℕ) : Type 0 where
  pub own : List Piece
  pub row_is : IsRowIn d at own
  pub bad : (((own_taking len (areas_of own)).left ≡ 0) × (heads_in (hole_in d) head (own_released (own_taking len (areas_of own))) ≡ Err p)) ⊎ ((0 < (own_taking len (areas_of own)).left) × BadBy (own_areas len (areas_of own)) d head len p)

-- the first block that is not what the chain or the list needs stands at a place
abbrev pub RewriteFindsBad : ListState → ℕ → ℕ → ℕ → Holding → Type 0
RewriteFindsBad l at len p m = IsBroken (bytes_of l.name m) at p ⊎ OwnBad (bytes_of l.name m) l.head at len p

-- the row fills the blocks of the other one and those of the list, and the file's end would not stay below a place
pub record OwnLong (l : ListState) (at len : ℕ) (m : Holding) : Type 0 where
  pub own : List Piece
  pub row_is : IsRowIn (bytes_of l.name m) at own
  pub some : 0 < (own_taking len (areas_of own)).left
  pub long : LongBy (own_areas len (areas_of own)) (bytes_of l.name m) l.head l.end (most_end l) len

abbrev pub RewriteIsLong : ListState → ℕ → ℕ → Holding → Type 0
RewriteIsLong l at len m = length (bytes_of l.name m) ≡ l.end → OwnLong l at len m

-- ---- what that is on the list

-- in a file whose blocks fill it, a row is put in the place of one that stands there
abbrev pub PutsAgain : ListState → ListState → ℕ → List ℕ → Holding → Holding → Type 0
PutsAgain l k at row m n = (old : List ℕ) (bs : List Block) (holes : List Area) → l.end % 4 ≡ 0 → HasHoles l holes (bytes_of l.name m) → StandsIn (bytes_of l.name m) at old bs holes → AreListedBehind (areas_in bs ++ holes) holes (bytes_of l.name m)
    → PutsRow k (areas_in bs ++ holes) (update (record { holes = holes; end = l.end }) (areas_in bs) (length row)) row at (bytes_of l.name m) (bytes_of l.name n)

-- ---- how many blocks that makes

-- A row that was put has so many blocks, of so many bytes, and took so many deleted blocks, and so many are on the list that were
-- not; the other row had so many blocks, of so many bytes (as far as the types of the numbers go).
pub record CountsReplaced (own holes : List Area) (p : Placing) (r : Replaced) : Type 0 where
  pub blocks : r.put.blocks ≡ length p.pieces
  pub bytes : r.put.bytes ≡ min (sizes_of p.pieces) (2 ^ 64 - 1)
  pub holes_are : length p.space.holes + r.put.taken ≡ length holes + r.put.more
  pub few : r.put.taken ≤ length holes
  pub had : r.blocks ≡ length own
  pub had_bytes : r.bytes ≡ min (sum_by (λ (a : Area). a.size) own) (2 ^ 64 - 1)

abbrev pub TalliesReplaced : ListState → ℕ → ℕ → Replaced → Holding → Type 0
TalliesReplaced l at len r m = (old : List ℕ) (bs : List Block) (holes : List Area) → l.end % 4 ≡ 0 → HasHoles l holes (bytes_of l.name m) → StandsIn (bytes_of l.name m) at old bs holes → AreListedBehind (areas_in bs ++ holes) holes (bytes_of l.name m)
    → CountsReplaced (areas_in bs) holes (update (record { holes = holes; end = l.end }) (areas_in bs) len) r
