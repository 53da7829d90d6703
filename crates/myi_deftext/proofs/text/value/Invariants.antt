use Rattle.std.proofs.Common.{◌≡◌, ◌≤◌, take}
use Rattle.myi_deftext.specs.Text.{value}
use Rattle.myi_deftext.proofs.text.value.Given as goal

abbrev pub invariant-loop-byte : goal.invariant-loop-byte
invariant-loop-byte l = record {
  few : l.value ≤ l.most;
  so_far : l.value ≡ value (take l.byte-index l.word);
}
