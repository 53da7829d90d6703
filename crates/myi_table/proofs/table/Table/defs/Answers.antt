use Rattle.std.proofs.Common.{◌≡◌, length, ap, subst, ◌∙◌}
use Rattle.myi_defs.specs.declared.types.Defs.{Defs}
use Rattle.myi_table.specs.Table.{OpenTable}
use Rattle.myi_table.proofs.table.Table.defs.Goals as goal

pub returns-clause-keys : goal.returns-clause-keys
returns-clause-keys c =
    let own : Defs = c.self.inside.defs in
    subst (λ (t : OpenTable). length t.rows.trees.places ≡ length own.keys) c.self.view_is (c.self.invariant.fit.each ∙ ap (λ (d : Defs). length d.keys) c.self.invariant.defs)
