use Rattle.std.proofs.Common.{◌≡◌, ◌≤◌, take}
use Rattle.myi_deftext.specs.Text.{value}
use Rattle.myi_script.proofs.value.value_up_to.Given as goal

abbrev pub invariant-loop-byte : goal.invariant-loop-byte
invariant-loop-byte l = record { value : l.value ≡ value (take l.byte-index l.word); low : l.value ≤ l.most }
