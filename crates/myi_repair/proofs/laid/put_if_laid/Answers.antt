use Rattle.myi_defs.proofs.CallerLemmas.{sound}
use Rattle.myi_repair.proofs.laid.put_if_laid.Goals as goal

pub put_trees-requires-clause-sound : goal.put_trees-requires-clause-sound
put_trees-requires-clause-sound g c κs lives = sound c.args.defs.now c.requires.defs
