use Rattle.std.proofs.Common.{[], ◌∙◌, arith}
use Rattle.myi_data.proofs.PlaceLemmas.{value_there, start_before, inside_value, byte_there}
use Rattle.myi_data.proofs.keys.byte_at.Goals as goal

pub field-requires : goal.field-requires
field-requires c = value_there c.args.fields.now c.args.row.now c.args.place c.field_at-i.result c.requires.row (record { inside = c.field_at-i.ensures.inside; plain = c.field_at-i.ensures.plain })

pub overflow_sub-inside : goal.overflow_sub-inside
overflow_sub-inside c = omega (arith, start_before c.args.fields.now c.args.row.now c.args.place c.field_at-i.result _ [] c.requires.starts c.requires.row (record { inside = c.field_at-i.ensures.inside; plain = c.field_at-i.ensures.plain }) c.start_of.ensures)

pub byte_in-requires-clause-inside : goal.byte_in-requires-clause-inside
byte_in-requires-clause-inside c = inside_value c.args.fields.now c.args.row.now c.args.place c.field_at-i.result _ _ c.requires.starts c.requires.row (record { inside = c.field_at-i.ensures.inside; plain = c.field_at-i.ensures.plain }) c.start_of.ensures c.in_ok-length.ensures.shown

pub returns-clause-byte : goal.returns-clause-byte
returns-clause-byte c = c.byte_in.ensures ∙ byte_there c.args.fields.now c.args.row.now c.args.place c.field_at-i.result _ _ c.requires.starts c.requires.row (record { inside = c.field_at-i.ensures.inside; plain = c.field_at-i.ensures.plain }) c.start_of.ensures c.in_ok-length.ensures.shown
