use Rattle.std.proofs.Common.{◌≡◌, ◌≤◌, ◌+◌, map, drop, []}
use Rattle.myi_script.specs.Script.{most_lines, read_lines}
use Rattle.myi_script.proofs.ReadingLemmas.{joined_lines}
use Rattle.myi_script.proofs.script.read_lines.Given as goal

abbrev pub invariant-loop-text : goal.invariant-loop-text
invariant-loop-text l = record {
  number : l.number ≡ l.text-index;
  few : l.number ≤ most_lines;
  so_far : joined_lines l.said.items (read_lines l.merge l.defs l.ended.items (l.number + 1) (map (λ s. s.now) (drop l.text-index l.lines))) ≡ read_lines l.merge l.defs [] 1 (map (λ s. s.now) l.lines);
}
