use Rattle.std.proofs.Common.{rules, ◌≡◌, sym, subst}
use Rattle.myi_history.specs.Lines.{MayRun}
use Rattle.myi_share_tests.proofs.jobs.run_script_round.Goals as goal

pub jobs_of-requires-clause-lines : goal.jobs_of-requires-clause-lines
jobs_of-requires-clause-lines g c =
    let defs : c.in_ok-defs.defs ≡ c.in-Ok-share.field-0.inserter.table.defs = search rules in
    let lines : c.as_slice.result.now ≡ c.in-Ok.script.lines = search rules in
    let run : MayRun c.in_ok-defs.defs c.in-Ok.script.lines = search (c.scripts_may_run.ensures.lines, c.in-Ok.ensures.inside) in
    subst (λ d. MayRun d c.as_slice.result.now) defs (subst (λ ls. MayRun c.in_ok-defs.defs ls) (sym lines) run)
