use Rattle.std.proofs.Common.{◌≡◌, length, take}
use Rattle.myi_saferepair.proofs.PairLaws.{first_pairs}
use Rattle.myi_saferepair.proofs.row_pairs.write_pairs.Given as goal

-- the pairs of the first so many keys stand at the front
abbrev pub invariant-loop-i : goal.invariant-loop-i
invariant-loop-i l = record {
  fields : l.fields ≡ l.fn.fields;
  each : length l.pairs ≡ length l.fn.pairs;
  so_far : take l.i l.pairs ≡ first_pairs l.defs l.fn.fields l.pointer l.i;
}
