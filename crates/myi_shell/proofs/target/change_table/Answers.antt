use Rattle.std.proofs.Common.{Option, Some, IfErr, sym, ap, subst, ◌∙◌}
use Rattle.std.specs.Prelude.{option_map}
use Rattle.std.proofs.lemmas.Result.{err_from_is_err_and}
use Rattle.myi_history.specs.History.{in_table}
use Rattle.myi_shell.specs.declared.changes.Changed.{Changed}
use Rattle.myi_shell.specs.declared.target.Target.TheVariants.{One}
use Rattle.myi_shell.specs.Changing.{IsChangedBy, NothingDamaged, table_changed}
use Rattle.myi_shell.proofs.TableTargets.{table_changes, nothing_damaged}
use Rattle.myi_shell.proofs.IdleLemmas.{table_leaves}
use Rattle.myi_shell.proofs.target.change_table.Goals as goal

pub returns-in_err-reply-clause-refused : goal.returns-in_err-reply-clause-refused
returns-in_err-reply-clause-refused g c =
    let e = err_from_is_err_and c.from_residual.result c.from_residual.ensures.1 in
    let told = g.F.Files.holds c.args.files.now in
    subst (λ r. IfErr r (NothingDamaged told)) (sym e.1) (subst (NothingDamaged told) (sym e.2) (nothing_damaged told c.args.table.now c.in_err-reply.field-0.0 c.requires.kept c.requires.whole c.in_err-reply.ensures.refused))

pub returns-in-Some-clause-changed : goal.returns-in-Some-clause-changed
returns-in-Some-clause-changed g c = λ m held s h.
    let told = g.F.Files.holds c.args.files.now in
    let next = g.F.Files.holds c.change.new.files in
    let old = c.args.table.now in
    let new = c.change.new.table in
    subst (λ (r : Option Changed). IsChangedBy in_table (One old) s c.args.together (Some c.args.act.now) next (One new) r) (ap (option_map table_changed) c.in-Some.is ∙ ap Some (sym c.table_changed.ensures))
    (table_changes told next old new c.args.together c.args.act.now c.in_ok-reply.field-0 c.in_ok-reply.ensures.changed m held s h)

pub returns-in-None-clause-changed : goal.returns-in-None-clause-changed
returns-in-None-clause-changed g c = λ m held s h.
    let told = g.F.Files.holds c.args.files.now in
    let next = g.F.Files.holds c.change.new.files in
    let old = c.args.table.now in
    let new = c.change.new.table in
    subst (λ (r : Option Changed). IsChangedBy in_table (One old) s c.args.together (Some c.args.act.now) next (One new) r) (ap (option_map table_changed) c.in-None.is)
    (table_changes told next old new c.args.together c.args.act.now c.in_ok-reply.field-0 c.in_ok-reply.ensures.changed m held s h)

pub returns-in_err-reply-clause-idle : goal.returns-in_err-reply-clause-idle
returns-in_err-reply-clause-idle g c = table_leaves (g.F.Files.holds c.args.files.now) (g.F.Files.holds c.change.new.files) c.args.table.now c.args.together c.args.act.now c.change.ensures.carried.others c.change.ensures.idle

pub returns-in-Some-clause-idle : goal.returns-in-Some-clause-idle
returns-in-Some-clause-idle g c = table_leaves (g.F.Files.holds c.args.files.now) (g.F.Files.holds c.change.new.files) c.args.table.now c.args.together c.args.act.now c.change.ensures.carried.others c.change.ensures.idle

pub returns-in-None-clause-idle : goal.returns-in-None-clause-idle
returns-in-None-clause-idle g c = table_leaves (g.F.Files.holds c.args.files.now) (g.F.Files.holds c.change.new.files) c.args.table.now c.args.together c.args.act.now c.change.ensures.carried.others c.change.ensures.idle
