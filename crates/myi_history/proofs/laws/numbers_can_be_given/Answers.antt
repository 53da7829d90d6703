use Rattle.myi_history.proofs.NumberLemmas.{counted_fit, in_turn_fits}
use Rattle.myi_history.proofs.laws.numbers_can_be_given.Goals as goal

pub returns : goal.returns
returns c = record { counted = counted_fit; zeros = in_turn_fits }
