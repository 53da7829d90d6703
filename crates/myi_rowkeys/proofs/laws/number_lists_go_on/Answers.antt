use Rattle.myi_rowkeys.proofs.NumberLemmas.{no_numbers, numbers_next}
use Rattle.myi_rowkeys.proofs.laws.number_lists_go_on.Goals as goal

pub returns-clause-none : goal.returns-clause-none
returns-clause-none c = no_numbers

pub returns-clause-next : goal.returns-clause-next
returns-clause-next c = numbers_next
