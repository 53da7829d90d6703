use Rattle.myi_history.proofs.BesideLemmas.{rows_inserted, table_between}
use Rattle.myi_history.proofs.SeenLemmas.{seen_within}
use Rattle.myi_history.proofs.running.sessions_go_beside_inserts.Goals as goal

pub returns : goal.returns
returns c = record { inserts = rows_inserted; between = table_between; seen = seen_within }
