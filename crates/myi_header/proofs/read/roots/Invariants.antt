use Rattle.std.proofs.Common.{◌≡◌, ◌++◌}
use Rattle.myi_header.specs.StateOf.{roots_in}
use Rattle.myi_header.proofs.RootLaws.{roots_left}
use Rattle.myi_header.proofs.read.roots.Given as goal

abbrev pub invariant-loop-key : goal.invariant-loop-key
invariant-loop-key l = l.roots.items ++ roots_left l.keys l.key l.bytes ≡ roots_in l.keys l.bytes
