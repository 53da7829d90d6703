-- Making an empty table: what its two files are then.
use Rattle.std.specs.Prelude.{ℕ, List, [], length, take}
use Rattle.myi_base.specs.Holding.{Holding}
use Rattle.myi_defs.specs.declared.types.Defs.{Defs}
use Rattle.myi_defs.specs.EmptyTable.{empty_header}
use Rattle.myi_create.specs.Names.{names_for}
use Rattle.myi_create.specs.Creating.{Makes}
use Rattle.myi_state.specs.State.{empty_table}
use Rattle.myi_tablestate.specs.Standing.{StandForTable}

-- these definitions, as they are read again from the header of an empty table with them
abbrev pub empty_defs : Defs → Defs
empty_defs d = record d { raw = take (length d.raw) (empty_header d.raw) }

-- the data file is empty, the index file is the header of an empty table with these definitions, and both stand for a table without rows;
-- there is no working file, and all other files stay
pub record MakesEmpty (name : List ℕ) (d : Defs) (m n : Holding) : Type 0 where
  pub made : Makes (names_for name) (empty_header d.raw) m n
  pub stand : StandForTable (empty_defs d) empty_table [] (empty_header d.raw)
