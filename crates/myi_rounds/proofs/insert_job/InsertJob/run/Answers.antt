use Rattle.std.proofs.Common.{◌≡◌, List, length, ap, arith}
use Rattle.myi_locks.specs.declared.steps.Step.{Step}
use Rattle.myi_rounds.proofs.InsertJobLemmas.{goes_then}
use Rattle.myi_rounds.proofs.insert_job.InsertJob.run.Goals as goal

pub returns-in_err-step-clause-on : goal.returns-in_err-step-clause-on
returns-in_err-step-clause-on g c = goes_then g.R.FileReader.holds c.args.self.now c.loop.self c.step.new.self c.loop.invariant.on c.step.ensures.on

pub loop-preserved : goal.loop-preserved
loop-preserved g c =
    let was = c.loop.invariant in
    let count : length c.self.inside.steps.now ≡ length c.args.self.now.steps = ap (λ j. length j.steps) c.self.view_is in
    let same : length c.loop.self.steps ≡ length c.args.self.now.steps = ap (λ (l : List Step). length l) was.on.steps in
    record {
      on = goes_then g.R.FileReader.holds c.args.self.now c.loop.self c.step.new.self was.on c.step.ensures.on;
      done = omega (arith, c.in_ok-step.ensures.next, count, same, was.done, c.loop-test.true);
      within = omega (arith, c.in_ok-step.ensures.next, count, same, was.within);
      later = omega (arith, was.later, c.step.ensures.cause.later);
    }
