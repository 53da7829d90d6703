use Rattle.myi_frames.proofs.RuleLemmas.{type-chosen, type-once, header-chosen}
use Rattle.myi_frames.proofs.laws.forms_are_chosen_once.Goals as goal

pub returns : goal.returns
returns c = record { chosen = type-chosen; once = type-once; header = header-chosen }
