use Rattle.std.proofs.Common.{◌∙◌, ap}
use Rattle.myi_state.specs.Changes as change
use Rattle.myi_shell.specs.Changing.{replied}
use Rattle.myi_shell.proofs.ChangeLemmas.{stepped_at, never_damaged_at, told_step, told_fault}
use Rattle.myi_shell.proofs.TouchLemmas.{touched_at, told_touched}
use Rattle.myi_shell.proofs.changes.update.Goals as goal

pub returns-clause-stepped : goal.returns-clause-stepped
returns-clause-stepped g c =
    told_step (change.update c.args.at c.args.row.now) _ _ _ _ _ _ (c.replied.ensures ∙ ap replied c.at_place.ensures)
    (stepped_at (change.update c.args.at c.args.row.now) _ _ _ _ c.args.at c.update.result c.keyed_refusals_come_in_order.ensures.left c.update.ensures.made c.update.ensures.refused c.update.ensures.unchanged)

pub returns-clause-refused : goal.returns-clause-refused
returns-clause-refused g c =
    told_fault _ _ _ _ (c.replied.ensures ∙ ap replied c.at_place.ensures) (never_damaged_at (change.update c.args.at c.args.row.now) _ _ c.args.at c.update.result c.update.ensures.refused)

pub returns-clause-touched : goal.returns-clause-touched
returns-clause-touched g c =
    told_touched _ _ _ _ _ _ (c.replied.ensures ∙ ap replied c.at_place.ensures) (touched_at _ _ _ _ c.args.at c.update.result c.update.ensures.same.name c.update.ensures.rows c.update.ensures.changed c.update.ensures.unmarked)
