use Rattle.std.proofs.Common.{◌≡◌, ◌++◌, ◌-◌}
use Rattle.myi_make.specs.MadeTable.{letters}
use Rattle.myi_make.proofs.rows.text_of.Given as goal

abbrev pub invariant-loop-j : goal.invariant-loop-j
invariant-loop-j l = l.text.items ++ letters l.x l.j (l.count - l.j) ≡ letters l.x 0 l.count
