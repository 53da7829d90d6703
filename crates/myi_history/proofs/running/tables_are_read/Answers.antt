use Rattle.myi_history.proofs.RunLemmas.{read_now}
use Rattle.myi_history.proofs.FoundLemmas.{finds_before}
use Rattle.myi_history.proofs.SeenLemmas.{run_state, run_appends, seen_rows, seen_same}
use Rattle.myi_history.proofs.running.tables_are_read.Goals as goal

pub returns : goal.returns
returns c = record { now = read_now; state = run_state; appends = run_appends; taken = seen_rows; lists = seen_same; found = finds_before }
