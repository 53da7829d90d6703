use Rattle.std.proofs.Common.{◌≡◌, ◌≤◌, ◌*◌, take, sum_by}
use Rattle.myi_defs.proofs.conditions.total.Given as goal

abbrev pub invariant-loop-field : goal.invariant-loop-field
invariant-loop-field l = record {
  few : l.total ≤ 65535 * l.field-index;
  so_far : l.total ≡ sum_by (λ f. f.length) (take l.field-index l.fields);
}
