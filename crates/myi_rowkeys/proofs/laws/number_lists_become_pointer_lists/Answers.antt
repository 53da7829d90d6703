use Rattle.myi_rowkeys.proofs.PointerLemmas.{all_pointed, kept_pointed}
use Rattle.myi_rowkeys.proofs.laws.number_lists_become_pointer_lists.Goals as goal

pub returns-clause-all : goal.returns-clause-all
returns-clause-all c = all_pointed

pub returns-clause-kept : goal.returns-clause-kept
returns-clause-kept c = kept_pointed
