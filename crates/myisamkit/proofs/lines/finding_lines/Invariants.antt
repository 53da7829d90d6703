use Rattle.std.proofs.Common.{◌≡◌, ◌++◌, drop, string_bytes}
use Rattle.myisamkit.specs.Lines.{finding_lines}
use Rattle.myisamkit.proofs.lines.finding_lines.Given as goal

abbrev pub invariant-loop-finding : goal.invariant-loop-finding
invariant-loop-finding l = string_bytes l.text ++ finding_lines l.fn.name (drop l.finding-index l.found) ≡ finding_lines l.fn.name l.fn.found
