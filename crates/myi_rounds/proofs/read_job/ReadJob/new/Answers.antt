use Rattle.std.proofs.Common.{arith}
use Rattle.myi_rounds.proofs.read_job.ReadJob.new.Goals as goal

pub invariant_of-result : goal.invariant_of-result
invariant_of-result g c = record {
  ready = c.requires.ready;
  kept = c.requires.kept;
  lines = c.requires.lines;
  within = omega arith;
}
