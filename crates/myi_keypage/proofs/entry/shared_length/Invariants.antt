use Rattle.std.proofs.Common.{◌≡◌, ◌+◌, ◌-◌, ◌≤◌, length, drop}
use Rattle.myi_keypage.proofs.entry.shared_length.Given as goal
use Rattle.myi_keypage.specs.Page.{shared}

abbrev pub invariant-loop-i : goal.invariant-loop-i
invariant-loop-i l = record { first : l.i ≤ length l.before; second : l.i ≤ length l.key; so_far : shared l.before l.key ≡ l.i + shared (drop l.i l.before) (drop l.i l.key) }

abbrev pub decreases-loop-i : goal.decreases-loop-i
decreases-loop-i l = length l.before - l.i
