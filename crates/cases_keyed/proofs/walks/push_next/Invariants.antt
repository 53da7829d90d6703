use Rattle.myi_table.specs.Table.{IsSame}
use Rattle.myi_table.specs.Reading.{HasKey, IsSameReading}
use Rattle.cases_keyed.proofs.walks.push_next.Given as goal

abbrev pub invariant-loop : goal.invariant-loop
invariant-loop l = HasKey l.table l.reading × IsSame l.fn.table l.table × IsSameReading l.fn.reading l.reading
