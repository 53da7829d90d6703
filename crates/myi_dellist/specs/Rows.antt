-- Rows that are put into a data file: what stands in the file and on its deleted list then.
use Rattle.std.specs.Prelude.{◌≡◌, ℕ, ◌+◌, ◌-◌, ◌%◌, ◌^◌, ◌<◌, ◌≤◌, min, Bool, true, false, List, [], ◌∷◌, ◌++◌, length, take, drop, Some, None}
use Rattle.std.specs.List.{AllByRecursion}
use Rattle.myi_base.specs.Holding.{Holding, bytes_of, overwritten}
use Rattle.myi_frames.specs.declared.write.FrameSpec.{FrameSpec}
use Rattle.myi_frames.specs.Block.{block_of}
use Rattle.myi_frames.specs.Writing.{block_bytes, whole_spec, start_spec, middle_spec, end_spec}
use Rattle.myi_dellist.specs.declared.fault.FreeFault.{FreeFault}
use Rattle.myi_dellist.specs.declared.fault.FreeFault.TheVariants as fault
use Rattle.myi_dellist.specs.declared.rows.Put.{Put}
use Rattle.myi_dellist.specs.declared.pieces.Piece.{Piece}
use Rattle.myi_dellist.specs.Areas.{Area, IsApart}
use Rattle.myi_dellist.specs.Releasing.{hole_at}
use Rattle.myi_dellist.specs.Placing.{areas_of, sizes_of, Placing, place, place_at_end, place_of, specs_of}
use Rattle.myi_dellist.specs.RowBlocks.{row_blocks}
use Rattle.myi_dellist.specs.Freeing.{hole_in, Becomes}
use Rattle.myi_dellist.specs.FreeList.{ListState, HasHoles}

-- ---- what is written

-- what a block of a row of so many bytes says, by the blocks behind it
abbrev pub block_spec : ℕ → Bool → List Piece → FrameSpec
block_spec len true [] = whole_spec len
block_spec len true (q ∷ ps) = start_spec len (Some q.at)
block_spec len false [] = end_spec
block_spec len false (q ∷ ps) = middle_spec (Some q.at)

-- the file's bytes once these blocks are written, each with the next of the row's bytes
abbrev pub blocks_written : List FrameSpec → List Piece → List ℕ → List ℕ → List ℕ
blocks_written [] ps row d = d
blocks_written (f ∷ fs) [] row d = d
blocks_written (f ∷ fs) (p ∷ ps) row d = blocks_written fs ps (drop p.taken row) (overwritten p.at (block_bytes f (take p.taken row) p.size) d)

-- the file's bytes once the blocks of a row are written
abbrev pub row_written : List Piece → List ℕ → List ℕ → List ℕ
row_written ps row d = blocks_written (specs_of (length row) ps) ps row d

-- they end below a place
abbrev pub AreBelow : ℕ → List Piece → Type 0
AreBelow end ps = AllByRecursion (λ p. p.at + p.size < end) ps

-- ---- when a row is refused

-- the place that the file's end stays below: that which the list says, and below which a file can end
abbrev pub most_end : ListState → ℕ
most_end l = min l.end_below (2 ^ 64)

-- where there is no room, this holds
abbrev pub IfFull : FreeFault → Type 0 → Type 0
IfFull fault.Full P = P
IfFull (fault.Damaged at) P = Unit {0}
IfFull fault.File P = Unit {0}
IfFull fault.Memory P = Unit {0}

-- planning without a read is refused for want of room or memory alone
abbrev pub IsRefused : FreeFault → Type 0
IsRefused fault.Full = Unit {0}
IsRefused (fault.Damaged at) = ⊥
IsRefused fault.File = ⊥
IsRefused fault.Memory = Unit {0}

-- no block that is read can be damaged where none is
abbrev pub IsNotDamaged : FreeFault → Type 0
IsNotDamaged fault.Full = Unit {0}
IsNotDamaged (fault.Damaged at) = ⊥
IsNotDamaged fault.File = Unit {0}
IsNotDamaged fault.Memory = Unit {0}

-- ---- what stands then

-- the file is no shorter, and what is apart from these areas holds what it held
pub record KeepsApart (areas : List Area) (d e : List ℕ) : Type 0 where
  pub longer : length d ≤ length e
  pub bytes : (p n : ℕ) → p + n ≤ length d → AllByRecursion (IsApart (record { at = p; size = n })) areas → take n (drop p e) ≡ take n (drop p d)

-- A row stands in the blocks of a placing, at a place, and the list and the file's end are what no row uses then. What is apart
-- from these blocks and from the deleted ones, before and after, holds what it held.
pub record PutsRow (k : ListState) (holes : List Area) (p : Placing) (row : List ℕ) (at : ℕ) (d e : List ℕ) : Type 0 where
  pub place_is : place_of p.pieces ≡ Some at
  pub holes_are : HasHoles k p.space.holes e
  pub end_is : k.end ≡ p.space.end
  pub long : length e ≡ p.space.end
  pub blocks : AllByRecursion (λ b. block_of e b.at ≡ Some b) (row_blocks p.pieces row)
  pub keeps : KeepsApart (areas_of p.pieces ++ (holes ++ p.space.holes)) d e

-- a row is put at the end of a file whose blocks fill it, whatever is deleted
abbrev pub PutsAtEnd : ListState → ListState → List ℕ → ℕ → Holding → Holding → Type 0
PutsAtEnd l k row at m n = (holes : List Area) → l.end % 4 ≡ 0 → HasHoles l holes (bytes_of l.name m) → PutsRow k holes (place_at_end (record { holes = holes; end = l.end }) (length row)) row at (bytes_of l.name m) (bytes_of l.name n)

-- where the file ends once a row of so many bytes is put at its end
abbrev pub end_with : ListState → ℕ → ℕ
end_with l len = (place_at_end (record { holes = []; end = l.end }) len).space.end

-- exactly the bytes of the blocks of a row behind the end are written
abbrev pub PutsBehind : ListState → List ℕ → Holding → Holding → Type 0
PutsBehind l row m n = Becomes l.name (row_written (place_at_end (record { holes = []; end = l.end }) (length row)).pieces row (bytes_of l.name m)) m n

-- ---- a row where it is to go

-- a deleted block directly behind one of these areas is on the list
abbrev pub AreListedBehind : List Area → List Area → List ℕ → Type 0
AreListedBehind areas holes d = AllByRecursion (λ a. hole_at (a.at + a.size) holes ≡ None → hole_in d (a.at + a.size) ≡ None) areas

-- a row is put into a file whose blocks fill it, where it is to go
abbrev pub PutsNew : ListState → ListState → List ℕ → ℕ → Holding → Holding → Type 0
PutsNew l k row at m n = (holes : List Area) → l.end % 4 ≡ 0 → HasHoles l holes (bytes_of l.name m) → AreListedBehind holes holes (bytes_of l.name m) → PutsRow k holes (place (record { holes = holes; end = l.end }) [] (length row)) row at (bytes_of l.name m) (bytes_of l.name n)

-- ---- how many blocks that makes

-- A row that was put has so many blocks, of so many bytes (as far as the type of the number goes). It took so many deleted blocks,
-- and so many are on the list that were not.
pub record Tallies (holes : List Area) (p : Placing) (put : Put) : Type 0 where
  pub blocks : put.blocks ≡ length p.pieces
  pub bytes : put.bytes ≡ min (sizes_of p.pieces) (2 ^ 64 - 1)
  pub holes_are : length p.space.holes + put.taken ≡ length holes + put.more
  pub few : put.more ≤ 1

abbrev pub TalliesNew : ListState → ℕ → Put → Holding → Type 0
TalliesNew l len put m = (holes : List Area) → l.end % 4 ≡ 0 → HasHoles l holes (bytes_of l.name m) → AreListedBehind holes holes (bytes_of l.name m) → Tallies holes (place (record { holes = holes; end = l.end }) [] len) put

abbrev pub TalliesAtEnd : ListState → ℕ → Put → Type 0
TalliesAtEnd l len put = (holes : List Area) → Tallies holes (place_at_end (record { holes = holes; end = l.end }) len) put
