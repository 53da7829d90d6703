-- A row whose blocks are released, from the first to the last.
use Rattle.std.specs.Prelude.{◌≡◌, ℕ, ◌+◌, ◌-◌, ◌^◌, ◌≤◌, ◌⊎◌, min, List, [], ◌∷◌, ◌++◌, length, sum_by, Option, Ok, Err}
use Rattle.std.specs.List.{flat_map}
use Rattle.myi_base.specs.Holding.{Holding, bytes_of}
use Rattle.myi_frames.specs.declared.head.Head.{Head}
use Rattle.myi_frames.specs.Block.{Block, IsPlace}
use Rattle.myi_dellist.specs.declared.several.Part.{Part}
use Rattle.myi_dellist.specs.declared.pieces.Piece.{Piece}
use Rattle.myi_dellist.specs.declared.rows.Freed.{Freed}
use Rattle.myi_dellist.specs.Areas.{Area}
use Rattle.myi_dellist.specs.Releasing.{most_size, release_all}
use Rattle.myi_dellist.specs.Freeing.{hole_in, Becomes}
use Rattle.myi_dellist.specs.Placing.{areas_of}
use Rattle.myi_dellist.specs.FreeList.{ListState, HasHoles}
use Rattle.myi_dellist.specs.Rows.{KeepsApart, AreListedBehind}
use Rattle.myi_dellist.specs.Several.{parts_of, heads_in, heads_written}
use Rattle.myi_dellist.specs.Replacing.{head_after}
use Rattle.myi_dellist.specs.Chains.{IsRowIn, IsBroken, areas_in, StandsIn}

abbrev pub part_area : Part → Area
part_area p = record { at = p.at; size = p.size }

abbrev pub parts_in : List Part → List Area
parts_in [] = []
parts_in (p ∷ ps) = part_area p ∷ parts_in ps

-- what is released of these blocks
abbrev pub freed_parts : List Piece → List Area
freed_parts ps = flat_map parts_of (areas_of ps)

-- an area that can be a deleted block in a file of this length
pub record IsPart (end : ℕ) (a : Area) : Type 0 where
  pub place : IsPlace a.at a.size end
  pub most : a.size ≤ most_size

-- ---- what is written

-- in a file of the length that the list says the row at a place has blocks, the headers that their releases write are written, and
-- the list begins with what was released last
pub record WritesFreed (l k : ListState) (at : ℕ) (m n : Holding) : Type 0 where
  pub own : List Piece
  pub heads : List Head
  pub row_is : IsRowIn (bytes_of l.name m) at own
  pub found : heads_in (hole_in (bytes_of l.name m)) l.head (freed_parts own) ≡ Ok heads
  pub becomes : Becomes l.name (heads_written heads (bytes_of l.name m)) m n
  pub head : k.head ≡ head_after l.head (freed_parts own)

abbrev pub FreesRow : ListState → ListState → ℕ → Holding → Holding → Type 0
FreesRow l k at m n = length (bytes_of l.name m) ≡ l.end → WritesFreed l k at m n

-- ---- what refuses it

-- behind the row's blocks, a block that is read is not what the list needs there
pub record FreedBad (d : List ℕ) (head : Option ℕ) (at p : ℕ) : Type 0 where
  pub own : List Piece
  pub row_is : IsRowIn d at own
  pub bad : heads_in (hole_in d) head (freed_parts own) ≡ Err p

-- the first block that is not what the chain or the list needs stands at a place
abbrev pub RowFindsBad : ListState → ℕ → ℕ → Holding → Type 0
RowFindsBad l at p m = IsBroken (bytes_of l.name m) at p ⊎ FreedBad (bytes_of l.name m) l.head at p

-- ---- what that is on the list

-- these blocks are released, and what is apart from them and from the list holds what it held
pub record LeavesFreed (k : ListState) (own holes : List Area) (d e : List ℕ) : Type 0 where
  pub holes_are : HasHoles k (release_all own holes) e
  pub long : length e ≡ length d
  pub keeps : KeepsApart (own ++ holes) d e

-- a row that stands in a file is released, block by block
abbrev pub RowIsFreed : ListState → ListState → ℕ → Holding → Holding → Type 0
RowIsFreed l k at m n = (row : List ℕ) (bs : List Block) (holes : List Area) → HasHoles l holes (bytes_of l.name m) → StandsIn (bytes_of l.name m) at row bs holes → AreListedBehind (areas_in bs) holes (bytes_of l.name m) → LeavesFreed k (areas_in bs) holes (bytes_of l.name m) (bytes_of l.name n)

-- ---- how many blocks that makes

-- A row that was released had so many blocks, of so many bytes (as far as the type of the number goes), and so many more are on
-- the list.
pub record CountsFreed (own holes : List Area) (freed : Freed) : Type 0 where
  pub blocks : freed.blocks ≡ length own
  pub bytes : freed.bytes ≡ min (sum_by (λ (a : Area). a.size) own) (2 ^ 64 - 1)
  pub holes_are : length (release_all own holes) ≡ length holes + freed.more

abbrev pub TalliesFreed : ListState → ℕ → Freed → Holding → Type 0
TalliesFreed l at freed m = (row : List ℕ) (bs : List Block) (holes : List Area) → HasHoles l holes (bytes_of l.name m) → StandsIn (bytes_of l.name m) at row bs holes → AreListedBehind (areas_in bs) holes (bytes_of l.name m) → CountsFreed (areas_in bs) holes freed
