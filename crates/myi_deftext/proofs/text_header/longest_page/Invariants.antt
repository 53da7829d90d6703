use Rattle.std.proofs.Common.{◌≡◌, max, drop}
use Rattle.myi_deftext.specs.TextHeader.{longest_page}
use Rattle.myi_deftext.proofs.text_header.longest_page.Given as goal

abbrev pub invariant-loop-i : goal.invariant-loop-i
invariant-loop-i l = max l.longest (longest_page l.pointer (drop l.i l.lines)) ≡ longest_page l.pointer l.lines
