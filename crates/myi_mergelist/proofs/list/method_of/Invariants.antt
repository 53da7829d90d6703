use Rattle.std.proofs.Common.{◌≡◌, map, drop, None}
use Rattle.myi_mergelist.specs.Reading.{method_of}
use Rattle.myi_mergelist.proofs.list.method_of.Given as goal

abbrev pub invariant-loop-line : goal.invariant-loop-line
invariant-loop-line l = method_of l.method (map (λ s. s.now) (drop l.line-index l.lines)) ≡ method_of None (map (λ s. s.now) l.lines)
