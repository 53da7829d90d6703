use Rattle.std.proofs.Common.{◌≡◌, drop}
use Rattle.myi_deftext.specs.TextHeader.{format_said}
use Rattle.myi_deftext.proofs.text_header.format_said.Given as goal

abbrev pub invariant-loop-line : goal.invariant-loop-line
invariant-loop-line l = format_said (drop l.line-index l.lines) ≡ format_said l.lines
