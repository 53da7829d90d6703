use Rattle.myi_defs.specs.declared.types.RowFormat.TheVariants.{Static}
use Rattle.myi_pack.proofs.SpellingLemmas.{no_value}
use Rattle.myi_pack.proofs.packing.is_live.Goals as goal

pub unreachable-requires : goal.unreachable-requires
unreachable-requires c =
    let none = no_value Static c.args.fields.now 0 c.args.values.now c.requires.some c.in_default.len_below in
    absurd (cc (none, c.requires.fits))
