use Rattle.std.proofs.Common.{ℕ, ◌≤◌, ◌<◌, ◌+◌, ◌-◌, ◌*◌, length, get_or}
use Rattle.myi_placelist.specs.Places.{IsRising}
use Rattle.myi_placelist.proofs.place_list.PlaceList.group_part.Given as goal

abbrev pub invariant-loop-to : goal.invariant-loop-to
invariant-loop-to l = record {
  order : l.from ≤ l.to;
  begun : 64 * l.from ≤ length l.self;
  inside : 64 * l.to < length l.self + 64;
  below : IsRising l.self → (k : ℕ) → k < 64 * l.from → get_or l.self k 0 < l.place;
  above : IsRising l.self → (k : ℕ) → 64 * l.to ≤ k → k < length l.self → l.place ≤ get_or l.self k 0;
}

abbrev pub decreases-loop-to : goal.decreases-loop-to
decreases-loop-to l = l.to - l.from
