use Rattle.myi_defs.proofs.CallerLemmas.{sound}
use Rattle.myi_repair.proofs.next_row.NextRow.spell.Goals as goal

pub spell_into-requires-clause-sound : goal.spell_into-requires-clause-sound
spell_into-requires-clause-sound c = sound c.args.defs.now c.requires.defs
