use Rattle.std.proofs.Common.{◌≡◌, ◌<◌, ℕ, true, false, get_or}
use Rattle.myi_check.proofs.list.least_left.Given as goal

abbrev pub invariant-loop-index : goal.invariant-loop-index
invariant-loop-index l = record { met : (k : ℕ) → k < l.index → get_or l.met k false ≡ true }
