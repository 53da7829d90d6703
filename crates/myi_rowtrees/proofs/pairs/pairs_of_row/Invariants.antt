use Rattle.std.proofs.Common.{◌≡◌}
use Rattle.myi_rowtrees.proofs.PairLemmas.{first_pairs}
use Rattle.myi_rowtrees.proofs.pairs.pairs_of_row.Given as goal

-- the pairs of the first so many keys stand in the list
abbrev pub invariant-loop-i : goal.invariant-loop-i
invariant-loop-i l = record {
  pairs : l.pairs.items ≡ first_pairs l.defs l.row l.pointer l.i;
}
