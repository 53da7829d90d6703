use Rattle.myi_tablestate.proofs.PlaceLemmas.{rows_back}
use Rattle.myi_tablestate.proofs.PairLemmas.{table_strict}
use Rattle.myi_tablestate.proofs.laws.key_lists_are_in_order.Goals as goal

pub returns : goal.returns
returns c = record { pointed = rows_back; strict = table_strict }
