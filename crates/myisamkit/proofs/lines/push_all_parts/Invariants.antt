use Rattle.std.proofs.Common.{◌≡◌, ◌++◌, drop, string_bytes}
use Rattle.std.specs.List.{flat_map}
use Rattle.myisamkit.specs.Lines.{parts_line}
use Rattle.myisamkit.proofs.lines.push_all_parts.Given as goal

abbrev pub invariant-loop-key : goal.invariant-loop-key
invariant-loop-key l = string_bytes l.text ++ flat_map (parts_line l.fn.name) (drop l.key-index l.parts) ≡ string_bytes l.fn.text ++ flat_map (parts_line l.fn.name) l.fn.parts
