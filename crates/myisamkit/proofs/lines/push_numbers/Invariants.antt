use Rattle.std.proofs.Common.{◌≡◌, ◌++◌, drop, string_bytes}
use Rattle.std.specs.List.{flat_map}
use Rattle.myisamkit.specs.Lines.{number_text}
use Rattle.myisamkit.proofs.lines.push_numbers.Given as goal

abbrev pub invariant-loop-number : goal.invariant-loop-number
invariant-loop-number l = string_bytes l.text ++ flat_map number_text (drop l.number-index l.numbers) ≡ string_bytes l.fn.text ++ flat_map number_text l.fn.numbers
