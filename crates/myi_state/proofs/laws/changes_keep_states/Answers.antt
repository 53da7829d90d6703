use Rattle.myi_state.proofs.StateLemmas.{empty-state, accepted-kept, step-kept}
use Rattle.myi_state.proofs.laws.changes_keep_states.Goals as goal

pub returns : goal.returns
returns c = record { empty = empty-state; accepted = accepted-kept; step = step-kept }
