-- What the parts of one sharing have in common.
use Rattle.std.specs.Prelude.{◌≡◌, ℕ, List}
use Rattle.myi_defs.specs.declared.types.Defs.{Defs}
use Rattle.myi_pack.specs.Packed.{Values}
use Rattle.myi_tail.specs.Seats.{TailId}
use Rattle.myi_inserter.specs.declared.inserter.TableInserter.{TableInserter}
use Rattle.myi_inserter.specs.Inserter.{IsInserter}
use Rattle.myi_readers.specs.declared.reader.TableReader.{TableReader}
use Rattle.myi_readers.specs.Reader.{IsReader}

-- the definitions of the table, the tail, and how many changes were made before
pub record Part : Type 0 where
  pub defs : Defs
  pub tail : TailId
  pub number : ℕ

abbrev pub of_inserter : TableInserter → Part
of_inserter i = record { defs = i.defs; tail = i.appender.tail; number = i.number }

abbrev pub of_reader : TableReader → Part
of_reader r = record { defs = r.defs; tail = r.seat.tail; number = r.number }

-- it is the inserter of this sharing, ready for its next call
abbrev pub IsPutPart : Part → TableInserter → Type 0
IsPutPart part i = (of_inserter i ≡ part) × ((rows : List Values) × IsInserter i rows)

-- it is a reader of this sharing, ready for its next call
abbrev pub IsReadPart : Part → TableReader → Type 0
IsReadPart part r = (of_reader r ≡ part) × IsReader r
