use Rattle.std.proofs.Common.{◌≡◌, map, take}
use Rattle.myi_repair.proofs.next_row.note_sizes.Given as goal

abbrev pub invariant-loop-size : goal.invariant-loop-size
invariant-loop-size l = l.sizes.items ≡ map (λ b. b.1) (take l.size-index l.blocks)
