use Rattle.std.proofs.Common.{◌≡◌, take}
use Rattle.std.specs.Prelude.{sum_by}
use Rattle.myi_check.proofs.met.bytes_in.Given as goal

abbrev pub invariant-loop-index : goal.invariant-loop-index
invariant-loop-index l = l.bytes ≡ sum_by (λ b. b.1) (take l.index l.blocks)
