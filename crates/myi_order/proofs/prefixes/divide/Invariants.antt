use Rattle.std.proofs.Common.{◌≡◌, take, drop, map, ◌++◌}
use Rattle.myi_order.specs.Shared.{average}
use Rattle.myi_order.proofs.prefixes.divide.Given as goal

-- those so far are divided, the others are as before
abbrev pub invariant-loop-count : goal.invariant-loop-count
invariant-loop-count l = l.counts ≡ map (average l.rows) (take l.count-index l.fn.counts) ++ drop l.count-index l.fn.counts
