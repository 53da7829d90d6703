use Rattle.myi_tablestate.proofs.KeyedLemmas.{empty_kept, accepted_kept, step_kept}
use Rattle.myi_tablestate.proofs.laws.keyed_changes_keep_tables.Goals as goal

pub returns : goal.returns
returns c = record { empty = empty_kept; accepted = accepted_kept; step = step_kept }
