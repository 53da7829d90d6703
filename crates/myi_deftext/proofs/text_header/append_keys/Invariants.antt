use Rattle.std.proofs.Common.{◌≡◌, ◌++◌, drop}
use Rattle.myi_deftext.specs.TextHeader.{keys_bytes}
use Rattle.myi_deftext.proofs.text_header.append_keys.Given as goal

abbrev pub invariant-loop-i : goal.invariant-loop-i
invariant-loop-i l = l.out.items ++ keys_bytes l.pointer (drop l.i l.lines) ≡ l.initial.out.items ++ keys_bytes l.pointer l.lines
