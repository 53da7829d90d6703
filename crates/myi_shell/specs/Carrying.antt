-- What calls on a table that is not broken leave: it is the same table, the files of other names hold what they held, and counters
-- do not fall.
use Rattle.std.specs.Prelude.{◌≡◌, ◌<◌, ◌≤◌, ℕ, true, Option}
use Rattle.myi_base.specs.Holding.{Holding, Told}
use Rattle.myi_search.specs.Counting.{CountsOn}
use Rattle.myi_table.specs.Table.{OpenTable, IsKept, IsSame, KeepsRows, ChangesItsOwn}

pub record IsCarried (told next : Option Holding) (old new : OpenTable) : Type 0 where
  pub kept : IsKept next new
  pub same : IsSame old new
  pub others : ChangesItsOwn told next old
  pub counted : CountsOn old.rows.trees.cache new.rows.trees.cache

-- the data file of the table holds what it held, and the table is marked as changed where it was before
pub record IsUntouched (told next : Option Holding) (old new : OpenTable) : Type 0 where
  pub rows : Told told next (KeepsRows old.name)
  pub mark : new.changed ≡ old.changed

-- So many changes were accepted before, and so many now: where there are no more of them the table is untouched, and else it is marked
-- as changed.
pub record IsTouchedBy (told next : Option Holding) (old new : OpenTable) (before now : ℕ) : Type 0 where
  pub name : new.name ≡ old.name
  pub later : before ≤ now
  pub none : now ≡ before → IsUntouched told next old new
  pub some : before < now → new.changed ≡ true
