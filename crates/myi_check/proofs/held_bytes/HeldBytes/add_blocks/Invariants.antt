use Rattle.std.proofs.Common.{◌++◌, take}
use Rattle.myi_chain.specs.Chain.{ranges_at}
use Rattle.myi_check.specs.HeldBytes.{SameBytes}
use Rattle.myi_check.proofs.held_bytes.HeldBytes.add_blocks.Given as goal

abbrev pub invariant-loop-index : goal.invariant-loop-index
invariant-loop-index l = SameBytes (l.initial.self ++ ranges_at (take l.index l.blocks)) l.self
