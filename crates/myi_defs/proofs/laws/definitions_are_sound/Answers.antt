use Rattle.myi_defs.proofs.CallerLemmas.{sound, are_defs}
use Rattle.myi_defs.proofs.ReadLemmas.{raw-header}
use Rattle.myi_defs.proofs.laws.definitions_are_sound.Goals as goal

pub returns : goal.returns
returns c = record { sound = sound; itself = are_defs; raw = raw-header }
