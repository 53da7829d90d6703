use Rattle.std.proofs.Common.{◌≡◌, map}
use Rattle.myi_parallel.specs.Shares.{asked_in}
use Rattle.myi_parallel.proofs.working.work_in_turn.Given as goal

abbrev pub invariant-loop-i : goal.invariant-loop-i
invariant-loop-i g l = map asked_in l.shares ≡ map asked_in l.initial.shares
