use Rattle.std.proofs.Common.{◌≡◌, ◌≤◌, ◌<◌, ◌^◌, ℕ, length}
use Rattle.std.specs.Prelude.{slice_index}
use Rattle.myi_check.proofs.MarkLemmas.{IsAhead}
use Rattle.myi_check.proofs.whole_list.meets_each.Given as goal

abbrev pub invariant-loop-step : goal.invariant-loop-step
invariant-loop-step l = record {
  long : length l.numbers ≡ length l.fn.numbers;
  before : l.before < 2 ^ 31;
  at : l.at < 2 ^ 31;
  kept : (k : ℕ) → slice_index l.numbers k ≤ 2147483647 → slice_index l.numbers k ≡ slice_index l.fn.numbers k;
  ahead : IsAhead l.unit l.places l.fn.numbers l.numbers l.head l.before l.at l._step;
}
