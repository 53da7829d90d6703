use Rattle.myi_pair.proofs.FirstRowsLaws as laws
use Rattle.myi_pair.proofs.laws.first_rows_are_distinct.Goals as goal

pub returns : goal.returns
returns c = record { distinct = laws.distinct; all = laws.all_kept; keys = laws.first_by_keys }
