use Rattle.std.proofs.Common.{◌≡◌, ◌≤◌, ◌*◌, take, sum_by}
use Rattle.myi_deftext.specs.TextHeader.{field_length}
use Rattle.myi_deftext.proofs.text_header.row_said.Given as goal

abbrev pub invariant-loop-line : goal.invariant-loop-line
invariant-loop-line l = record {
  few : l.row ≤ 65535 * l.line-index;
  so_far : l.row ≡ sum_by field_length (take l.line-index l.lines);
}
