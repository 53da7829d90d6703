use Rattle.std.proofs.Common.{refl}
use Rattle.myi_pack.proofs.SpellingLemmas.{fits-each}
use Rattle.myi_pack.proofs.packing.pack.Goals as goal

pub pack_slot-requires-clause-fits : goal.pack_slot-requires-clause-fits
pack_slot-requires-clause-fits c = fits-each c.args.defs.now c.args.row.now _ _ _ c.requires.fits c.in-Static.is refl refl

pub pack_fields-requires-clause-fits : goal.pack_fields-requires-clause-fits
pack_fields-requires-clause-fits c = fits-each c.args.defs.now c.args.row.now _ _ _ c.requires.fits c.in-Dynamic.is c.as_slice.ensures c.as_slice-in-Dynamic.ensures
