use Rattle.myi_rowkeys.proofs.ListLemmas.{sorted_numbers}
use Rattle.myi_rowkeys.proofs.laws.sorted_lists_are_number_lists.Goals as goal

pub returns : goal.returns
returns c = sorted_numbers
