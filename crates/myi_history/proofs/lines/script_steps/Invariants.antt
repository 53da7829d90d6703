use Rattle.std.proofs.Common.{◌≡◌, take}
use Rattle.myi_history.specs.Lines.{script_steps}
use Rattle.myi_history.proofs.lines.script_steps.Given as goal

abbrev pub invariant-loop-line : goal.invariant-loop-line
invariant-loop-line l = l.steps.items ≡ script_steps l.list (take l.line-index l.lines)
