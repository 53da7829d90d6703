use Rattle.std.proofs.Common.{◌≡◌, subst}
use Rattle.myi_opening.specs.Names.{rows_file}
use Rattle.myi_table.specs.Table.{OpenTable}
use Rattle.myi_table.proofs.table.Table.length.Goals as goal

pub returns-clause-file : goal.returns-clause-file
returns-clause-file c = subst (λ (t : OpenTable). t.rows.rows.file.name ≡ rows_file t.name) c.self.view_is c.self.invariant.rows_named
