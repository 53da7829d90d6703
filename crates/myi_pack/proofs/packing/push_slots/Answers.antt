use Rattle.myi_defs.specs.declared.types.RowFormat.TheVariants.{Static}
use Rattle.myi_pack.proofs.SpellingLemmas.{no_value}
use Rattle.myi_pack.proofs.packing.push_slots.Goals as goal

pub unreachable-requires : goal.unreachable-requires
unreachable-requires c =
    let none = no_value Static c.args.fields.now c.loop-field.field-index c.loop-field.rest.now c.loop-field-test.true c.in_default.len_below in
    absurd (cc (none, c.loop-field.invariant.fits))
