use Rattle.std.proofs.Common.{◌+◌, List, take, sym, ap, subst, ◌∙◌}
use Rattle.myi_locks.specs.declared.steps.Run.{Run}
use Rattle.myi_rounds.specs.declared.round.AskedReads.{AskedReads}
use Rattle.myi_shell.specs.Stepping.{state_of}
use Rattle.myi_shell.specs.Beside.{taken_of, AreAsked}
use Rattle.myi_shell.proofs.ThreadLemmas.{asked_more, take_whole}
use Rattle.myi_shell.proofs.script_run.ScriptRun.asked_reads.Goals as goal

pub loop-run-preserved : goal.loop-run-preserved
loop-run-preserved c =
    let p = state_of c.args.self.now in
    record {
      so_far = subst (λ (asked : List AskedReads). AreAsked p (take (c.loop-run.run-index + 1) c.args.runs.now) asked) (sym c.in_ok-push.ensures.items)
          (asked_more p c.args.runs.now c.loop-run.asked.items c.loop-run.run-index c.run-item.result _ c.loop-run-test.true c.loop-run.invariant.so_far
          (c.as_slice.ensures ∙ ap (λ (r : Run). r.steps) c.run-item.is) (c.snapshot_of.ensures ∙ ap (λ (r : Run). taken_of p r.session) c.run-item.is));
    }
