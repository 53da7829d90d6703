use Rattle.myi_history.proofs.RunLemmas.{ends_within, ends_text, ends_table}
use Rattle.myi_history.proofs.running.runs_end.Goals as goal

pub returns : goal.returns
returns c = record { within = ends_within; text = ends_text; table = ends_table }
