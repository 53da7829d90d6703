use Rattle.std.proofs.Common.{ℕ, ◌≤◌, ◌<◌, ◌-◌, length, get_or}
use Rattle.myi_placelist.specs.Places.{IsRising}
use Rattle.myi_placelist.proofs.place_list.PlaceList.count_in.Given as goal

abbrev pub invariant-loop-from : goal.invariant-loop-from
invariant-loop-from l = record {
  order : l.from ≤ l.to;
  inside : l.to ≤ length l.self;
  below : IsRising l.self → (k : ℕ) → k < l.from → get_or l.self k 0 < l.place;
  above : IsRising l.self → (k : ℕ) → l.to ≤ k → k < length l.self → l.place ≤ get_or l.self k 0;
}

abbrev pub decreases-loop-from : goal.decreases-loop-from
decreases-loop-from l = l.to - l.from
