use Rattle.std.proofs.Common.{length}
use Rattle.myi_keys.specs.Comparing.{key_front}
use Rattle.myi_keylist.specs.PairOrder.{pair_with}
use Rattle.myi_insertion.proofs.SpotLaws.{HasRead}
use Rattle.myi_insertion.proofs.pass.spot_in.Given as goal

abbrev pub invariant-loop-item : goal.invariant-loop-item
invariant-loop-item l = HasRead l.rec_ref l.bytes (pair_with (key_front l.key) l.row) l.code.items l.walk l.index l.child

abbrev pub decreases-loop-item : goal.decreases-loop-item
decreases-loop-item l = length l.walk
