use Rattle.std.proofs.Common.{◌≡◌, ◌≤◌, take, sum_by}
use Rattle.myi_defs.proofs.conditions.is_long.Given as goal

abbrev pub invariant-loop-segment : goal.invariant-loop-segment
invariant-loop-segment l = record {
  few : l.total ≤ 1000;
  so_far : l.total ≡ sum_by (λ s. s.length) (take l.segment-index l.segments);
}
