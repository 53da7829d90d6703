use Rattle.std.proofs.Common.{◌≡◌, ◌≤◌, ◌<◌, ◌+◌, ◌*◌, ◌^◌, ℕ, ◌∷◌, length, get_or}
use Rattle.myi_placelist.specs.Groups.{places_behind}
use Rattle.myi_placelist.proofs.groups.count_passed.Given as goal

abbrev pub invariant-loop-index : goal.invariant-loop-index
invariant-loop-index l = record {
  place : l.at ≡ get_or (l.base ∷ places_behind l.base l.steps) l.index 0;
  room : l.at ≤ l.base + 256 * l.index;
  below : (k : ℕ) → k < l.index → get_or (places_behind l.base l.steps) k 0 < l.place;
}
