use Rattle.std.proofs.Common.{true, false}
use Rattle.myi_state.specs.Changes as change
use Rattle.myi_shell.proofs.ChangeLemmas.{stepped, never_damaged, told_step, told_fault, insert_is}
use Rattle.myi_shell.proofs.TouchLemmas.{touched, told_touched}
use Rattle.myi_shell.proofs.changes.insert.Goals as goal

pub returns-then-together-clause-stepped : goal.returns-then-together-clause-stepped
returns-then-together-clause-stepped g c =
    insert_is _ true _ _ _ _ _ _ c.if-together.true
    (told_step (change.insert_at_end c.args.row.now) _ _ _ _ _ _ c.replied.ensures
    (stepped (change.insert_at_end c.args.row.now) _ _ _ _ c.insert_at_end.result c.keyed_refusals_come_in_order.ensures.left c.insert_at_end.ensures.made c.insert_at_end.ensures.refused c.insert_at_end.ensures.unchanged))

pub returns-then-together-clause-refused : goal.returns-then-together-clause-refused
returns-then-together-clause-refused g c =
    told_fault _ _ _ _ c.replied.ensures (never_damaged (change.insert_at_end c.args.row.now) _ _ c.insert_at_end.result c.insert_at_end.ensures.refused)

pub returns-else-together-clause-stepped : goal.returns-else-together-clause-stepped
returns-else-together-clause-stepped g c =
    insert_is _ false _ _ _ _ _ _ c.if-together.false
    (told_step (change.insert c.args.row.now) _ _ _ _ _ _ c.replied-else-together.ensures
    (stepped (change.insert c.args.row.now) _ _ _ _ c.insert.result c.keyed_refusals_come_in_order.ensures.left c.insert.ensures.made c.insert.ensures.refused c.insert.ensures.unchanged))

pub returns-else-together-clause-refused : goal.returns-else-together-clause-refused
returns-else-together-clause-refused g c =
    told_fault _ _ _ _ c.replied-else-together.ensures (never_damaged (change.insert c.args.row.now) _ _ c.insert.result c.insert.ensures.refused)

pub returns-then-together-clause-touched : goal.returns-then-together-clause-touched
returns-then-together-clause-touched g c =
    told_touched _ _ _ _ _ _ c.replied.ensures (touched _ _ _ _ c.insert_at_end.result c.insert_at_end.ensures.same.name c.insert_at_end.ensures.rows c.insert_at_end.ensures.changed c.insert_at_end.ensures.unmarked)

pub returns-else-together-clause-touched : goal.returns-else-together-clause-touched
returns-else-together-clause-touched g c =
    told_touched _ _ _ _ _ _ c.replied-else-together.ensures (touched _ _ _ _ c.insert.result c.insert.ensures.same.name c.insert.ensures.rows c.insert.ensures.changed c.insert.ensures.unmarked)
