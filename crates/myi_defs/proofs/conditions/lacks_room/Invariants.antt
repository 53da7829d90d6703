use Rattle.std.proofs.Common.{◌≡◌, ◌≤◌, ◌+◌, ◌*◌, take, sum_by}
use Rattle.myi_defs.specs.Kinds.{seg_cost}
use Rattle.myi_defs.proofs.conditions.lacks_room.Given as goal

abbrev pub invariant-loop-segment : goal.invariant-loop-segment
invariant-loop-segment l = record {
  few : l.needed ≤ 66135;
  so_far : l.needed ≡ 2 * (sum_by (λ s. seg_cost s.length) (take l.segment-index l.segments) + 13 + l.rec_ref) + 9;
}
