use Rattle.std.proofs.Common.{◌≡◌, ◌++◌, map, drop, Some}
use Rattle.myi_deftext.specs.Text.{outside, said, start}
use Rattle.myi_deftext.proofs.text.followed.Given as goal

-- what is left decides, and what is said and is left to say is all
abbrev pub invariant-loop-i : goal.invariant-loop-i
invariant-loop-i l = record {
  follows : outside (Some start) 0 (map (λ l. l.now) l.lines) ≡ outside (Some l.stage) l.i (drop l.i (map (λ l. l.now) l.lines));
  says : l.said.items ++ said (drop l.i (map (λ l. l.now) l.lines)) ≡ said (map (λ l. l.now) l.lines);
}
