use Rattle.std.proofs.Common.{◌≡◌, drop, ◌++◌}
use Rattle.myi_order.specs.Numbers.{all_per}
use Rattle.myi_order.proofs.numbers.all_numbers.Given as goal

-- what was appended and what is left are the whole
abbrev pub invariant-loop-part : goal.invariant-loop-part
invariant-loop-part l = l.numbers.items ++ all_per (drop l.part-index l.parts) ≡ all_per l.parts
