use Rattle.std.proofs.Common.{◌≡◌, ◌++◌, drop}
use Rattle.myi_shell.specs.Beside.{runs_left}
use Rattle.myi_shell.proofs.beside.runs_left.Given as goal

abbrev pub invariant-loop-at : goal.invariant-loop-at
invariant-loop-at l = record {
  so_far : l.left.items ++ runs_left (drop l.at l.runs) (drop l.at l.went) ≡ runs_left l.runs l.went;
}
