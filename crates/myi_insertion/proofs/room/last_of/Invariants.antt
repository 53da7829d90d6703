use Rattle.std.proofs.Common.{◌≡◌, ◌≤◌, ℕ, length, drop}
use Rattle.std.specs.List.{AllByRecursion}
use Rattle.myi_insertion.proofs.room.last_of.Given as goal

abbrev pub invariant-loop-i : goal.invariant-loop-i
invariant-loop-i l = record {
  inside : l.i ≤ length l.free;
  none : AllByRecursion (λ (r : ℕ × ℕ). r.1 ≡ l.len → ⊥) (drop l.i l.free);
}

abbrev pub decreases-loop-i : goal.decreases-loop-i
decreases-loop-i l = l.i
