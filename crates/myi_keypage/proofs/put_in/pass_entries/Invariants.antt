use Rattle.std.proofs.Common.{◌≡◌, ◌≤◌, ◌+◌, List, [], length}
use Rattle.myi_keypage.specs.declared.entry.Entry.{Entry}
use Rattle.myi_keypage.specs.PuttingIn.{AreEntries}
use Rattle.myi_keypage.proofs.PutInLaws.{HasPassed}
use Rattle.myi_keypage.proofs.put_in.pass_entries.Given as goal

abbrev pub invariant-loop-turn : goal.invariant-loop-turn
invariant-loop-turn l = record {
  long : length l.key ≡ length l.fn.key;
  short : l.len + length l.text ≤ length l.fn.key;
  passed : (es : List Entry) → AreEntries l.rec_ref [] es l.all → l.count ≤ length es → HasPassed l.rec_ref es l._turn l.text l.key l.len;
}
