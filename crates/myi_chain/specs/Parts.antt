-- A data file whose blocks follow one another and are those of rows and deleted blocks, as a server and
-- this project leave it.
use Rattle.std.specs.Prelude.{◌≡◌, ℕ, ◌+◌, ◌⊎◌, ◌&&◌, nat_le, nat_lt, Bool, true, List, [], ◌∷◌, ◌++◌, Some}
use Rattle.std.specs.List.{AllByRecursion}
use Rattle.myi_base.specs.Ranges.{Range, is_apart}
use Rattle.myi_frames.specs.declared.form.FrameKind.TheVariants.{Deleted, Middle, End}
use Rattle.myi_frames.specs.Block.{Block}
use Rattle.myi_chain.specs.Chain.{Reading, range_of, ranges, row_bytes, IsChain, AreApart}
use Rattle.myi_chain.specs.Readable.{Item, row, free, row_at}

-- a block of the file: the first of a row, with the others of that row; another one of a row; a deleted one
pub data Part : Type 0 where
  first : Block → List Block → Part
  further : Block → Part
  deleted : Block → Part

abbrev pub block_in : Part → Block
block_in (first b bs) = b
block_in (further b) = b
block_in (deleted b) = b

-- the rows and the deleted blocks, in order of their places
abbrev pub parts_met : List Part → List Item
parts_met [] = []
parts_met (first b bs ∷ ps) = row (row_at b.at (b ∷ bs)) ∷ parts_met ps
parts_met (further b ∷ ps) = parts_met ps
parts_met (deleted b ∷ ps) = free (range_of b) ∷ parts_met ps

-- the ranges of the rows' blocks, row after row
abbrev pub row_ranges : List Part → List Range
row_ranges [] = []
row_ranges (first b bs ∷ ps) = ranges (b ∷ bs) ++ row_ranges ps
row_ranges (further b ∷ ps) = row_ranges ps
row_ranges (deleted b ∷ ps) = row_ranges ps

-- one directly after another, up to the file's end
abbrev pub Follow : ℕ → ℕ → List Part → Type 0
Follow len p [] = p ≡ len
Follow len p (c ∷ ps) = ((block_in c).at ≡ p) × Follow len (p + (block_in c).size) ps

-- a row stands in these blocks
pub record IsRowIn (read : Reading) (accepts : List ℕ → Bool) (b : Block) (bs : List Block) : Type 0 where
  pub chain : IsChain read b.at [] (b ∷ bs)
  pub packs : accepts (row_bytes (b ∷ bs)) ≡ true

-- a part is what it says; a deleted block shares no byte with a row
abbrev pub IsPart : Reading → (List ℕ → Bool) → List Range → Part → Type 0
IsPart read accepts rows (first b bs) = IsRowIn read accepts b bs
IsPart read accepts rows (further b) = (read b.at ≡ Some b) × ((b.kind ≡ Middle) ⊎ (b.kind ≡ End))
IsPart read accepts rows (deleted b) = (read b.at ≡ Some b) × (b.kind ≡ Deleted) × (is_apart (range_of b) rows ≡ true)

-- a file of this length is these parts
pub record IsMadeOf (read : Reading) (accepts : List ℕ → Bool) (len : ℕ) (parts : List Part) : Type 0 where
  pub follow : Follow len 0 parts
  pub each : AllByRecursion (IsPart read accepts (row_ranges parts)) parts
  pub apart : AreApart [] (row_ranges parts)

-- the byte at a place is one of the range
abbrev pub has_byte : ℕ → Range → Bool
has_byte p r = nat_le r.0 p && nat_lt p r.1
