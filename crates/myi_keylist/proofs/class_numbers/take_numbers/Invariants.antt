use Rattle.std.proofs.Common.{◌≡◌, ◌<◌, ◌||◌, ℕ, false, length, get_or, take}
use Rattle.myi_keylist.specs.Classes.{has_class}
use Rattle.myi_keylist.proofs.class_numbers.take_numbers.Given as goal

abbrev pub invariant-loop-numbers : goal.invariant-loop-numbers
invariant-loop-numbers l = record {
  long : length l.taken ≡ length l.fn.taken;
  so_far : (c : ℕ) → c < length l.fn.taken → get_or l.taken c false ≡ (get_or l.fn.taken c false || has_class (take l.numbers-index l.columns) c l.row);
}
