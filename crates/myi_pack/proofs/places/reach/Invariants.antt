use Rattle.std.proofs.Common.{◌-◌, length}
use Rattle.myi_pack.specs.Places.{AreBegun}
use Rattle.myi_pack.proofs.places.reach.Given as goal

abbrev pub invariant-loop-behind : goal.invariant-loop-behind
invariant-loop-behind l = AreBegun l.fields l.flags l.bytes 1 l.behind.items

abbrev pub decreases-loop-behind : goal.decreases-loop-behind
decreases-loop-behind l = l.i - length l.behind.items
