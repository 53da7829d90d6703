use Rattle.std.proofs.Common.{◌≤◌, ◌<◌, ◌-◌, length}
use Rattle.myi_data.specs.Readable.{packs}
use Rattle.myi_data.specs.NextSlot.{HoldNone}
use Rattle.myi_data.proofs.next_slot.first_slot.Given as goal

abbrev pub invariant-loop-at : goal.invariant-loop-at
invariant-loop-at l = record {
  inside : l.at ≤ length l.bytes;
  whole : 0 < l.at → l.size ≤ l.at;
  passes : HoldNone l.wanted (packs l.test) l.size l.bytes l.at;
}

abbrev pub decreases-loop-at : goal.decreases-loop-at
decreases-loop-at l = length l.bytes - l.at
