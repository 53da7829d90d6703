use Rattle.std.proofs.Common.{◌≡◌, ◌≤◌, ◌+◌, ◌*◌, drop, length}
use Rattle.myi_deftext.specs.TextHeader.{key_most, leading}
use Rattle.myi_deftext.proofs.text_header.key_said.Given as goal

abbrev pub invariant-loop-line : goal.invariant-loop-line
invariant-loop-line l = record {
  few : l.count ≤ l.line-index;
  short : l.most ≤ 65538 * l.line-index;
  most : l.most + key_most (leading (drop l.line-index l.lines)) ≡ key_most (leading l.lines);
  count : l.count + length (leading (drop l.line-index l.lines)) ≡ length (leading l.lines);
}
