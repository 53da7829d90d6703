use Rattle.std.proofs.Common.{◌≡◌, ◌+◌, ◌≤◌, ℕ, length}
use Rattle.myi_keylist.specs.PairOrder.{sorted}
use Rattle.myi_keylist.specs.FirstBy.{KeyOf}
use Rattle.myi_keylist.specs.Columns.{numbered}
use Rattle.myi_keylist.proofs.NumberLaws.{ColumnNumbers}
use Rattle.myi_keylist.proofs.pair_list.PairList.number.Given as goal

-- the pairs so far have their numbers
abbrev pub invariant-loop-i : goal.invariant-loop-i
invariant-loop-i l = record {
  above : l.taken ≤ l.last;
  few : l.last ≤ l.taken + l.i;
  long : length l.column ≡ length l.fn.column;
  numbers : (key : KeyOf ℕ) → l.self ≡ sorted (numbered key (length l.fn.column)) → ColumnNumbers l.self l.column l.taken l.last l.i;
}
