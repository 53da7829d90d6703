use Rattle.myi_history.proofs.AppendLemmas.{appends_stand_behind}
use Rattle.myi_history.proofs.laws.appended_rows_stand_behind.Goals as goal

pub returns : goal.returns
returns c = appends_stand_behind
