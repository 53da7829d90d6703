use Rattle.std.proofs.Common.{◌≡◌, ◌≤◌, ◌*◌, take, length, sum_by}
use Rattle.myi_defs.proofs.outline.parts.Given as goal

abbrev pub invariant-loop-key : goal.invariant-loop-key
invariant-loop-key l = record {
  few : l.parts ≤ 16 * l.key-index;
  so_far : l.parts ≡ sum_by (λ k. length k.segments) (take l.key-index l.keys);
}
