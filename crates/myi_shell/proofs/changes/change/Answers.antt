use Rattle.std.proofs.Common.{Some, refl, sym, subst}
use Rattle.myi_script.specs.declared.types.Act.{Act}
use Rattle.myi_history.specs.History.{table_change}
use Rattle.myi_shell.specs.Changing.{IsChanged}
use Rattle.myi_base.proofs.CallerLemmas.{told_same}
use Rattle.myi_shell.proofs.IdleLemmas.{insert_asks, update_asks, delete_asks}
use Rattle.myi_shell.proofs.changes.change.Goals as goal

pub returns-in_ok-insert-in-Insert-clause-changed : goal.returns-in_ok-insert-in-Insert-clause-changed
returns-in_ok-insert-in-Insert-clause-changed g c = λ m held s h.
    subst (λ (a : Act). IsChanged c.args.table.now s (table_change c.args.together (Some a)) (g.F.Files.holds c.insert.new.files) c.insert.new.table (Some c.in_ok-insert-in-Insert.field-0)) (sym c.in-Insert.is) (c.in_ok-insert-in-Insert.ensures.stepped m held s h)

pub returns-in_ok-update-in-Update-clause-changed : goal.returns-in_ok-update-in-Update-clause-changed
returns-in_ok-update-in-Update-clause-changed g c = λ m held s h.
    subst (λ (a : Act). IsChanged c.args.table.now s (table_change c.args.together (Some a)) (g.F.Files.holds c.update.new.files) c.update.new.table (Some c.in_ok-update-in-Update.field-0)) (sym c.in-Update.is) (c.in_ok-update-in-Update.ensures.stepped m held s h)

pub returns-in_ok-delete-in-Delete-clause-changed : goal.returns-in_ok-delete-in-Delete-clause-changed
returns-in_ok-delete-in-Delete-clause-changed g c = λ m held s h.
    subst (λ (a : Act). IsChanged c.args.table.now s (table_change c.args.together (Some a)) (g.F.Files.holds c.delete.new.files) c.delete.new.table (Some c.in_ok-delete-in-Delete.field-0)) (sym c.in-Delete.is) (c.in_ok-delete-in-Delete.ensures.stepped m held s h)

pub returns-in_err-insert-in-Insert-clause-idle : goal.returns-in_err-insert-in-Insert-clause-idle
returns-in_err-insert-in-Insert-clause-idle g c = λ none. insert_asks _ c.args.together c.args.act.now _ c.in-Insert.is none

pub returns-in_err-update-in-Update-clause-idle : goal.returns-in_err-update-in-Update-clause-idle
returns-in_err-update-in-Update-clause-idle g c = λ none. update_asks _ c.args.together c.args.act.now _ _ c.in-Update.is none

pub returns-in_err-delete-in-Delete-clause-idle : goal.returns-in_err-delete-in-Delete-clause-idle
returns-in_err-delete-in-Delete-clause-idle g c = λ none. delete_asks _ c.args.together c.args.act.now _ c.in-Delete.is none

pub returns-in_ok-insert-in-Insert-clause-idle : goal.returns-in_ok-insert-in-Insert-clause-idle
returns-in_ok-insert-in-Insert-clause-idle g c = λ none. insert_asks _ c.args.together c.args.act.now _ c.in-Insert.is none

pub returns-in_ok-update-in-Update-clause-idle : goal.returns-in_ok-update-in-Update-clause-idle
returns-in_ok-update-in-Update-clause-idle g c = λ none. update_asks _ c.args.together c.args.act.now _ _ c.in-Update.is none

pub returns-in_ok-delete-in-Delete-clause-idle : goal.returns-in_ok-delete-in-Delete-clause-idle
returns-in_ok-delete-in-Delete-clause-idle g c = λ none. delete_asks _ c.args.together c.args.act.now _ c.in-Delete.is none

pub returns-in_default-clause-idle : goal.returns-in_default-clause-idle
returns-in_default-clause-idle g c = λ none. told_same _ _ _ refl (λ m held. refl)
