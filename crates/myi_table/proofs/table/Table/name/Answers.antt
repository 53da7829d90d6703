use Rattle.std.proofs.Common.{◌≡◌, ◌≢◌, ◌∙◌, sym, subst}
use Rattle.myi_opening.specs.Names.{rows_file, index_file}
use Rattle.myi_table.specs.Table.{OpenTable}
use Rattle.myi_table.proofs.table.Table.name.Goals as goal

pub returns-clause-rows : goal.returns-clause-rows
returns-clause-rows c = subst (λ (t : OpenTable). t.rows.rows.file.name ≡ rows_file t.name) c.self.view_is c.self.invariant.rows_named

pub returns-clause-index : goal.returns-clause-index
returns-clause-index c = subst (λ (t : OpenTable). t.rows.trees.cache.name ≡ index_file t.name) c.self.view_is c.self.invariant.index_named

pub returns-clause-apart : goal.returns-clause-apart
returns-clause-apart c = subst (λ (t : OpenTable). rows_file t.name ≢ index_file t.name) c.self.view_is (λ e. c.self.invariant.fit.apart (c.self.invariant.rows_named ∙ e ∙ sym c.self.invariant.index_named))
