-- What holds of the readable rows and of the deleted blocks that are passed, said of any reading.
use Rattle.std.specs.Prelude.{◌≡◌, ◌+◌, ◌≤◌, ℕ, Bool, true, false, List, [], ◌∷◌, Some}
use Rattle.std.specs.List.{flat_map}
use Rattle.myi_base.specs.Ranges.{Range}
use Rattle.myi_frames.specs.declared.form.FrameKind.TheVariants.{Deleted}
use Rattle.myi_frames.specs.Block.{Block}
use Rattle.myi_chain.specs.Chain.{Reading, range_of, ranges, row_bytes, IsChain}
use Rattle.myi_chain.specs.Readable.{Row, Item, row, free}

-- a row is the bytes of a chain at its place, and they pack a row
pub record IsRowOf (read : Reading) (accepts : List ℕ → Bool) (r : Row) : Type 0 where
  pub chain : List Block
  pub is : IsChain read r.at [] chain
  pub bytes : r.bytes ≡ row_bytes chain
  pub blocks : r.blocks ≡ ranges chain
  pub packs : accepts r.bytes ≡ true

-- a range is that of a deleted block
pub record IsDeletedOf (read : Reading) (a : Range) : Type 0 where
  pub block : Block
  pub here : read a.0 ≡ Some block
  pub kind : block.kind ≡ Deleted
  pub range : a ≡ range_of block

abbrev pub IsItemOf : Reading → (List ℕ → Bool) → Item → Type 0
IsItemOf read accepts (row r) = IsRowOf read accepts r
IsItemOf read accepts (free a) = IsDeletedOf read a

-- the ranges of the blocks of these rows, row after row
abbrev pub ranges_of : List Row → List Range
ranges_of rows = flat_map (λ r. r.blocks) rows

-- the rows stand in order of their places, from a place on
abbrev pub AreRising : ℕ → List Row → Type 0
AreRising low [] = Unit {0}
AreRising low (r ∷ rs) = (low ≤ r.at) × AreRising (r.at + 1) rs

-- rows and deleted blocks stand in order of their places, from a place on, each behind the deleted block before it
abbrev pub ItemsRise : ℕ → List Item → Type 0
ItemsRise low [] = Unit {0}
ItemsRise low (row r ∷ is) = (low ≤ r.at) × ItemsRise (r.at + 1) is
ItemsRise low (free a ∷ is) = (low ≤ a.0) × ItemsRise a.1 is

-- no chain at a place packs a row
abbrev pub HasNoRow : Reading → (List ℕ → Bool) → ℕ → List Range → Type 0
HasNoRow read accepts p used = (bs : List Block) → IsChain read p used bs → accepts (row_bytes bs) ≡ false
