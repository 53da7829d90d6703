use Rattle.myi_frames.proofs.BlockLemmas.{seen-nothing, seen-longer, seen-whole}
use Rattle.myi_frames.proofs.laws.answers_are_decided.Goals as goal

pub returns : goal.returns
returns c = record { nothing = seen-nothing; longer = seen-longer; whole = seen-whole }
