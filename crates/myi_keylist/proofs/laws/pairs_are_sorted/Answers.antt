use Rattle.std.proofs.Common.{refl}
use Rattle.myi_keylist.proofs.SortedLaws.{pair_total, sorted_permutes, sorted_sorted, sorted_is}
use Rattle.myi_keylist.proofs.laws.pairs_are_sorted.Goals as goal

pub returns-clause-total : goal.returns-clause-total
returns-clause-total c = pair_total

pub returns-clause-own : goal.returns-clause-own
returns-clause-own c = λ one other. refl

pub returns-clause-permuted : goal.returns-clause-permuted
returns-clause-permuted c = sorted_permutes

pub returns-clause-ascending : goal.returns-clause-ascending
returns-clause-ascending c = sorted_sorted

pub returns-clause-once : goal.returns-clause-once
returns-clause-once c = sorted_is
