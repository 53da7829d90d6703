-- A row of a state stands in blocks of the file.
use Rattle.std.proofs.Common.{◌≡◌, ℕ, Some}
use Rattle.myi_base.specs.Holding.{Holding, bytes_of}
use Rattle.myi_defs.specs.declared.types.RowFormat.TheVariants.{Dynamic}
use Rattle.myi_state.specs.State.{StoredRow, TableState, row_at}
use Rattle.myi_state.specs.Standing.{StandsInBlocks}
use Rattle.myi_state.proofs.CallerLemmas.{found-is}
use Rattle.myi_slots.specs.SlotFile.{SlotFile, IsFileOf}
use Rattle.myi_blocks.specs.RowReading.{StandsAt}
use Rattle.myi_blocks.proofs.StandLemmas.{dynamic-of}

-- a row of a state stands so
pub row-stands : (f : SlotFile) (s : TableState) (m : Holding) (at : ℕ) (r : StoredRow) → f.defs.format ≡ Dynamic → IsFileOf f s m → row_at at s.rows ≡ Some r → StandsAt f at m r
row-stands f s m at r dynamic k here =
    let x = bytes_of f.name m in
    let found = found-is (StandsInBlocks f.defs x) at s.rows r here (dynamic-of f.defs s x dynamic k.stands).stand in
    (found.1, found.0)
