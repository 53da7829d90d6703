use Rattle.std.proofs.Common.{◌≡◌, length}
use Rattle.myi_saferepair.proofs.row_pairs.RowPairs.new.Given as goal

-- as many pairs as keys that were gone over
abbrev pub invariant-loop : goal.invariant-loop
invariant-loop l = record {
  each : length l.pairs.items ≡ l.counter;
}
