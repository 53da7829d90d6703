use Rattle.std.proofs.Common.{Ok, map, sym, ap, subst, string_bytes, ◌∙◌}
use Rattle.myisamkit.specs.declared.status.Status.TheVariants as status
use Rattle.myisamkit.specs.Shells.{text_among, IsRefused}
use Rattle.myisamkit.specs.ShellSteps.{AreTables, IsRead}
use Rattle.myisamkit.proofs.ShellFoundLaws.{read_in}
use Rattle.myisamkit.proofs.ShellRunLaws.{no_list, not_read}
use Rattle.myisamkit.proofs.shell_ready.prepare.Goals as goal

pub returns-in_default-clause-found : goal.returns-in_default-clause-found
returns-in_default-clause-found g c m held = subst (λ l. IsRefused c.args.job.now.name.now c.args.job.now.script.now m l status.Refused) (sym c.in_ok-line.ensures) (no_list c.args.job.now.name.now c.args.job.now.script.now m (subst (λ t. AreTables c.args.job.now.name.now t m) c.in_default.is (c.in_ok-tables.ensures.tables m held)))

pub returns-in-Refused-clause-found : goal.returns-in-Refused-clause-found
returns-in-Refused-clause-found g c m held =
    let tables = subst (λ t. AreTables c.args.job.now.name.now t m) c.in-Some.is (c.in_ok-tables.ensures.tables m held) in
    let read = subst (IsRead (text_among (map (λ s. string_bytes s) c.deref.result.now) c.args.job.now.script.now m)) c.in-Refused.is (c.in_ok-status.ensures.read m (c.tables_of.ensures.holds ∙ held)) in
    not_read c.args.job.now.name.now c.args.job.now.script.now (string_bytes c.in-Refused.line) c.in-Refused.status c.in-Some.tables.list m tables.1 (read_in _ c.args.job.now.name.now c.args.job.now.script.now m _ (ap (map (λ s. string_bytes s)) c.deref.ensures.value ∙ tables.0) read)

pub load_and_parse-requires-clause-list : goal.load_and_parse-requires-clause-list
load_and_parse-requires-clause-list g c κs within m held = (subst (λ t. AreTables c.args.job.now.name.now t m) c.in-Some.is (c.in_ok-tables.ensures.tables m (sym c.tables_of.ensures.holds ∙ (sym c.find_text.ensures.holds ∙ held)))).1

pub load_and_parse-requires-clause-text : goal.load_and_parse-requires-clause-text
load_and_parse-requires-clause-text g c κs within m held =
    let before = sym c.find_text.ensures.holds ∙ held in
    let tables = subst (λ t. AreTables c.args.job.now.name.now t m) c.in-Some.is (c.in_ok-tables.ensures.tables m (sym c.tables_of.ensures.holds ∙ before)) in
    let read = subst (IsRead (text_among (map (λ s. string_bytes s) c.deref.result.now) c.args.job.now.script.now m)) c.in-Text.is (c.in_ok-status.ensures.read m before) in
    read_in _ c.args.job.now.name.now c.args.job.now.script.now m _ (ap (map (λ s. string_bytes s)) c.deref.ensures.value ∙ tables.0) read ∙ ap Ok (sym c.deref-in-Text.ensures.value)
