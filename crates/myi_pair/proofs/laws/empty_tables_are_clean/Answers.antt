use Rattle.myi_pair.proofs.CallerLemmas.{empty_is_clean, empty_none}
use Rattle.myi_pair.proofs.laws.empty_tables_are_clean.Goals as goal

pub returns : goal.returns
returns c = record { clean = empty_is_clean; found = empty_none }
