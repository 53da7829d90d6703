use Rattle.std.proofs.Common.{◌-◌, ◌++◌, ℕ, List}
use Rattle.myi_keypage.specs.declared.entry.Entry.{Entry}
use Rattle.myi_keypage.specs.Page.{entries_bytes}
use Rattle.myi_keypage.specs.Shifting.{further, HasEntries}
use Rattle.myi_keypage.proofs.ShiftLaws.{Gone}
use Rattle.myi_keypage.proofs.shift.shift_entries.Given as goal

abbrev pub invariant-entries : goal.invariant-entries
invariant-entries l = record {
  left : (done before : List ℕ) (entries : List Entry) (children rest : List ℕ) → HasEntries l.rec_ref l.by l.fn.page l.fn.at l.used done before entries children rest
      → Gone l.rec_ref l.by l.page l.at l.used (done ++ (entries_bytes l.rec_ref before entries (further l.by children) ++ rest)) rest;
}

abbrev pub decreases-entries : goal.decreases-entries
decreases-entries l = l.used - l.at
