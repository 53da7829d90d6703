use Rattle.std.proofs.Common.{◌≡◌, map, take}
use Rattle.myi_check.proofs.rows.places.Given as goal

abbrev pub invariant-loop-index : goal.invariant-loop-index
invariant-loop-index l = l.places ≡ map (λ b. b.0) (take l.index l.blocks)
