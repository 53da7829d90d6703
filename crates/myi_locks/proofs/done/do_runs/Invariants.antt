use Rattle.std.proofs.Common.{◌≡◌, take, fold}
use Rattle.std.specs.List.{flat_map}
use Rattle.myi_locks.specs.Done.{stepped}
use Rattle.myi_locks.proofs.done.do_runs.Given as goal

abbrev pub invariant-loop-run : goal.invariant-loop-run
invariant-loop-run l = l.sessions ≡ fold stepped l.fn.sessions (flat_map (λ r. r.steps) (take l.run-index l.runs))
