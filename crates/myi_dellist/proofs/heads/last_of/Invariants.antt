use Rattle.std.proofs.Common.{◌≡◌, None, length}
use Rattle.myi_dellist.specs.Heads.{over}
use Rattle.myi_dellist.proofs.heads.last_of.Given as goal

abbrev pub invariant-loop-head : goal.invariant-loop-head
invariant-loop-head l = over l.left (λ p. l.found) l.at ≡ over l.fn.heads (λ p. None) l.at

abbrev pub decreases-loop-head : goal.decreases-loop-head
decreases-loop-head l = length l.left
