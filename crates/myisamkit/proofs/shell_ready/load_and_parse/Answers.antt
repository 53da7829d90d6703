use Rattle.std.proofs.Common.{Err, IfSome, sym, ap, subst, ◌∙◌}
use Rattle.myisamkit.specs.declared.status.Status.TheVariants as status
use Rattle.myisamkit.specs.Shells.{Differ, IsRefused}
use Rattle.myisamkit.specs.ShellSteps.{IsFresh, IsTarget, IsLoadedOn}
use Rattle.myisamkit.proofs.ShellRunLaws.{unlike, ready_so, runnable_so, outside_so}
use Rattle.myisamkit.proofs.shell_ready.load_and_parse.Goals as goal

pub returns-in_default-clause-found : goal.returns-in_default-clause-found
returns-in_default-clause-found g c m held =
    let differ : Differ c.args.job.now.name.now m = subst (λ o. IsLoadedOn c.args.job.now.name.now o m) c.in_default.is (c.in_ok-target.ensures.loaded m held) in
    subst (λ l. IsRefused c.args.job.now.name.now c.args.job.now.script.now m l status.Refused) (sym c.in_ok-line.ensures) (unlike c.args.job.now.name.now c.args.job.now.script.now c.args.text.now c.args.list m (c.requires.list m held) (c.requires.text m held) differ)

pub returns-in-Ok-clause-found : goal.returns-in-Ok-clause-found
returns-in-Ok-clause-found g c m held =
    let fresh : IsFresh c.args.list c.in-Some.target = subst (λ o. IfSome o (IsFresh c.args.list)) c.in-Some.is c.in_ok-target.ensures.fresh in
    let loaded : IsTarget c.args.job.now.name.now c.in-Some.target m = subst (λ o. IsLoadedOn c.args.job.now.name.now o m) c.in-Some.is (c.in_ok-target.ensures.loaded m held) in
    ready_so c.args.job.now.name.now c.args.job.now.script.now c.args.text.now c.lines_defs.result.now c.args.list c.in-Some.target c.in-Ok.script.lines m (c.requires.text m held) fresh c.lines_defs.ensures.defs c.in-Ok.ensures.inside loaded

pub returns-in-Ok-clause-plain : goal.returns-in-Ok-clause-plain
returns-in-Ok-clause-plain g c =
    let fresh : IsFresh c.args.list c.in-Some.target = subst (λ o. IfSome o (IsFresh c.args.list)) c.in-Some.is c.in_ok-target.ensures.fresh in
    runnable_so c.scripts_run_on_like_tables.ensures c.lines_defs.result.now c.args.list c.in-Some.target c.in-Ok.script.lines fresh c.lines_defs.ensures.defs (c.scripts_may_run.ensures.lines c.args.list c.lines_defs.result.now c.args.text.now c.in-Ok.script.lines c.in-Ok.ensures.inside)

pub returns-in-Err-Line-clause-found : goal.returns-in-Err-Line-clause-found
returns-in-Err-Line-clause-found g c m held =
    let fresh : IsFresh c.args.list c.in-Some.target = subst (λ o. IfSome o (IsFresh c.args.list)) c.in-Some.is c.in_ok-target.ensures.fresh in
    let loaded : IsTarget c.args.job.now.name.now c.in-Some.target m = subst (λ o. IsLoadedOn c.args.job.now.name.now o m) c.in-Some.is (c.in_ok-target.ensures.loaded m held) in
    subst (λ l. IsRefused c.args.job.now.name.now c.args.job.now.script.now m l status.Refused) (sym c.in_ok-line-in-Err-Line.ensures) (outside_so c.clean_pairs_stand_for_tables.ensures.stands c.args.job.now.name.now c.args.job.now.script.now c.args.text.now c.in-Err-Line.number c.lines_defs.result.now c.args.list c.in-Some.target m (g.met.F.Files.told_bytes c.args.files.now m held) (c.requires.text m held) fresh c.lines_defs.ensures.defs (c.parse_script.ensures.outside c.in-Err-Line.number (c.in-Err-Line.is ∙ ap Err c.in-Err-Line.field-0-is)) loaded)
