use Rattle.std.proofs.Common.{◌≡◌, ℕ, List}
use Rattle.myi_base.specs.Holding.{HoldsBytes}
use Rattle.myi_memfiles.specs.Stored.{held, given}
use Rattle.myi_memfiles.proofs.memory.stored.Given as goal

abbrev pub invariant-loop-name : goal.invariant-loop-name
invariant-loop-name l = record {
  same : (q : List ℕ) → held l.stored q ≡ given l.yielded q;
  bytes : HoldsBytes (given l.yielded);
}
