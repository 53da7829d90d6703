use Rattle.std.proofs.Common.{◌≡◌, drop}
use Rattle.myi_deftext.specs.TextHeader.{pointer_said}
use Rattle.myi_deftext.proofs.text_header.pointer_said.Given as goal

abbrev pub invariant-loop-line : goal.invariant-loop-line
invariant-loop-line l = pointer_said (drop l.line-index l.lines) ≡ pointer_said l.lines
