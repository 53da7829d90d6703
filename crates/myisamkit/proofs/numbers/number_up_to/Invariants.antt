use Rattle.std.proofs.Common.{◌≡◌, ◌≤◌, ◌+◌, ◌-◌, ◌*◌, drop, fold}
use Rattle.myi_deftext.specs.Text.{value}
use Rattle.myisamkit.proofs.numbers.number_up_to.Given as goal

abbrev pub invariant-loop-digit : goal.invariant-loop-digit
invariant-loop-digit l = record {
  few : l.number ≤ l.fn.most;
  so_far : fold (λ n b. n * 10 + (b - 48)) l.number (drop l.digit-index l.digits) ≡ value l.digits;
}
