use Rattle.std.proofs.Common.{sym, ◌∙◌}
use Rattle.myi_defs.specs.declared.types.RowFormat.TheVariants.{Static}
use Rattle.myi_pack.proofs.SpellingLemmas.{no_value}
use Rattle.myi_pack.proofs.packing.fits_slot.Goals as goal

pub returns-in_default : goal.returns-in_default
returns-in_default c =
    sym (no_value Static c.args.fields.now c.loop-field.field-index c.loop-field.rest.now c.loop-field-test.true c.in_default.len_below) ∙ c.loop-field.invariant
