use Rattle.std.proofs.Common.{◌≡◌, ◌+◌, ◌++◌, ◌<◌, [], length, take, drop}
use Rattle.myi_keypage.proofs.write.put_entries.Given as goal
use Rattle.myi_keypage.specs.Page.{entries_bytes}

abbrev pub invariant-loop-i : goal.invariant-loop-i
invariant-loop-i g l =
    let rest = entries_bytes l.rec_ref l.before (drop l.i (g.L.EntryList.entries l.entries)) (drop l.i l.children) in
    let whole = entries_bytes l.rec_ref [] (g.L.EntryList.entries l.entries) l.children in
    record {
      text : take l.at l.into ++ rest ≡ take l.fn.at l.fn.into ++ whole;
      ends : l.at + length rest ≡ l.fn.at + length whole;
      few : length l.before + length rest < 65536;
      len : length l.into ≡ length l.fn.into;
    }
