use Rattle.std.proofs.Common.{◌∙◌, ◌+◌, length, Some, None, sym, ap}
use Rattle.std.specs.Prelude.{if◌then◌else◌}
use Rattle.myi_defs.specs.declared.types.RowFormat.TheVariants.{Dynamic}
use Rattle.myi_pack.specs.Flags.{flag_bytes, flag_count}
use Rattle.myi_pack.specs.Spelling.{spelled_fields}
use Rattle.myi_pack.proofs.SpellingLemmas.{no_value}
use Rattle.myi_pack.proofs.packing.packed_len.Goals as goal

pub returns-in_default : goal.returns-in_default
returns-in_default c =
    let none = no_value Dynamic c.args.fields.now c.loop-field.field-index c.loop-field.rest.now c.loop-field-test.true c.in_default.len_below in
    ap (λ b. if b then Some (flag_bytes (flag_count c.args.fields.now) + length (spelled_fields Dynamic c.args.fields.now c.args.values.now)) else None) (sym none ∙ c.loop-field.invariant.fits)
