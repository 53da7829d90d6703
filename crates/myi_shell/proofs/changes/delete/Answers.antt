use Rattle.std.proofs.Common.{◌∙◌, ap}
use Rattle.myi_state.specs.Changes as change
use Rattle.myi_shell.specs.Changing.{replied}
use Rattle.myi_shell.proofs.ChangeLemmas.{stepped_at, never_damaged_at, told_step, told_fault}
use Rattle.myi_shell.proofs.TouchLemmas.{touched_at, told_touched}
use Rattle.myi_shell.proofs.changes.delete.Goals as goal

pub returns-clause-stepped : goal.returns-clause-stepped
returns-clause-stepped g c =
    told_step (change.delete c.args.at) _ _ _ _ _ _ (c.replied.ensures ∙ ap replied c.at_place.ensures)
    (stepped_at (change.delete c.args.at) _ _ _ _ c.args.at c.delete.result c.keyed_refusals_come_in_order.ensures.left c.delete.ensures.made c.delete.ensures.refused c.delete.ensures.unchanged)

pub returns-clause-refused : goal.returns-clause-refused
returns-clause-refused g c =
    told_fault _ _ _ _ (c.replied.ensures ∙ ap replied c.at_place.ensures) (never_damaged_at (change.delete c.args.at) _ _ c.args.at c.delete.result c.delete.ensures.refused)

pub returns-clause-touched : goal.returns-clause-touched
returns-clause-touched g c =
    told_touched _ _ _ _ _ _ (c.replied.ensures ∙ ap replied c.at_place.ensures) (touched_at _ _ _ _ c.args.at c.delete.result c.delete.ensures.same.name c.delete.ensures.rows c.delete.ensures.changed c.delete.ensures.unmarked)
