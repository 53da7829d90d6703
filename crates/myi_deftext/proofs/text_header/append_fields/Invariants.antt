use Rattle.std.proofs.Common.{◌≡◌, ◌++◌, take, flat_map}
use Rattle.myi_deftext.specs.TextHeader.{field_bytes}
use Rattle.myi_deftext.proofs.text_header.append_fields.Given as goal

abbrev pub invariant-loop-line : goal.invariant-loop-line
invariant-loop-line l = l.out.items ≡ l.initial.out.items ++ flat_map field_bytes (take l.line-index l.lines)
