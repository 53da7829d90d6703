use Rattle.std.proofs.Common.{◌≡◌, length}
use Rattle.myi_parallel.specs.KeyPairs.{keys_from}
use Rattle.myi_parallel.proofs.recovering.keys_of.Given as goal

abbrev pub invariant-loop-pairs : goal.invariant-loop-pairs
invariant-loop-pairs l = record {
  count : length l.keys.items ≡ length l.yielded;
  keys : l.keys.items ≡ keys_from l.defs 1 l.yielded;
}
