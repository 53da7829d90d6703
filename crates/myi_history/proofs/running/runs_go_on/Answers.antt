use Rattle.myi_history.proofs.RunLemmas.{goes_on, locks_more, table_more, number_more, taken_more, counted_more, text_more}
use Rattle.myi_history.proofs.running.runs_go_on.Goals as goal

pub returns : goal.returns
returns c = record { next = goes_on; locks = locks_more; table = table_more; number = number_more; taken = taken_more; counted = counted_more; text = text_more }
