use Rattle.myi_keyedrows.proofs.StillLemmas.{step_reached, still_files}
use Rattle.myi_keyedrows.proofs.laws.calls_keep_files.Goals as goal

pub returns : goal.returns
returns c = record { reached = step_reached; stand = still_files }
