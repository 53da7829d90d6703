use Rattle.std.proofs.Common.{◌≡◌, ◌+◌, ◌-◌}
use Rattle.myi_keys.specs.Comparing.{segs_front, key_front}
use Rattle.myi_order.specs.Shared.{shared}
use Rattle.myi_order.proofs.prefixes.shared_segments.Given as goal

-- what was passed and what is left are the whole
abbrev pub invariant-loop-count : goal.invariant-loop-count
invariant-loop-count l = l.count + shared (segs_front (16 - l.count) l.left) (segs_front (16 - l.count) l.others) ≡ shared (key_front l.fn.one) (key_front l.fn.other)
