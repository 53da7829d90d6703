-- A readable row at its place: as it stands there, whatever else is in the file, and as it is read from there.
use Rattle.std.specs.Prelude.{◌≡◌, ◌+◌, ℕ, List, [], ◌∷◌, length, take, drop, Option}
use Rattle.myi_base.specs.Holding.{Holding, IfTold, bytes_of}
use Rattle.myi_defs.specs.declared.types.Defs.{Defs}
use Rattle.myi_defs.specs.declared.types.RowFormat.{RowFormat}
use Rattle.myi_defs.specs.declared.types.RowFormat.TheVariants.{Static, Dynamic}
use Rattle.myi_frames.specs.Block.{block_of}
use Rattle.myi_chain.specs.Chain.{ranges_at}
use Rattle.myi_chain.specs.Readable.{Row}
use Rattle.myi_chain.specs.Meeting.{IsRowOf}
use Rattle.myi_data.specs.Readable.{packs}
use Rattle.myi_data.specs.Stored.{SizedRow}
use Rattle.myi_pair.specs.Clean.{sized_row}
use Rattle.myi_repair.specs.declared.next_row.NextRow.{NextRow}
use Rattle.myi_repair.specs.Keeping.{IsPrepared}
use Rattle.myi_order.specs.declared.row_at.RowAt.{RowAt}
use Rattle.myi_order.specs.declared.nearby.Nearby.{Nearby}
use Rattle.myi_order.specs.Nearby.{Knows}

-- the row is the slot at its place
pub record IsInSlot (d : Defs) (x : List ℕ) (r : Row) : Type 0 where
  pub bytes : r.bytes ≡ take d.slot_length (drop r.at x)
  pub blocks : r.blocks ≡ (r.at, r.at + length r.bytes) ∷ []

abbrev pub StandsBy : RowFormat → Defs → List ℕ → Row → Type 0
StandsBy Static d x r = IsInSlot d x r
StandsBy Dynamic d x r = IsRowOf (block_of x) (packs d) r

-- the row is the slot at its place, or the chain of blocks there
abbrev pub Stands : Defs → List ℕ → Row → Type 0
Stands d x r = StandsBy d.format d x r

-- these are the row's bytes and blocks
pub record Holds (a : RowAt) (r : Row) : Type 0 where
  pub bytes : a.bytes.items ≡ r.bytes
  pub blocks : ranges_at a.blocks.items ≡ r.blocks

-- a row was read from a place of a file of which a part is held, and spelled: the one that stands there, where one does
pub record ReadsThere (d : Defs) (name : List ℕ) (near : Nearby) (at : ℕ) (told : Option Holding) (next : NextRow) : Type 0 where
  pub row : SizedRow
  pub prepared : IsPrepared d row next
  pub there : IfTold told (λ m. Knows near name m → (r : Row) → r.at ≡ at → Stands d (bytes_of name m) r → sized_row d r ≡ row)
