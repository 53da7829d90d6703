use Rattle.std.proofs.Common.{◌≡◌, ◌++◌, length}
use Rattle.myi_pack.proofs.values.unpack.Given as goal

abbrev pub invariant-loop-length : goal.invariant-loop-length
invariant-loop-length l = l.values.items ++ l.fields ≡ l.fn.view

abbrev pub decreases-loop-length : goal.decreases-loop-length
decreases-loop-length l = length l.fields
