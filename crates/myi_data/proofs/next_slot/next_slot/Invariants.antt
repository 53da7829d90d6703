use Rattle.std.proofs.Common.{◌≡◌, ◌≤◌, ◌-◌}
use Rattle.myi_base.specs.Holding.{IfTold}
use Rattle.myi_window.specs.Excerpt.{EndsBy, GoesOnStanding}
use Rattle.myi_data.specs.NextSlot.{MeetsNone}
use Rattle.myi_data.proofs.next_slot.next_slot.Given as goal

abbrev pub invariant-loop-behind : goal.invariant-loop-behind
invariant-loop-behind g l = record {
  start : l.place ≡ l.fn.place;
  later : l.fn.place ≤ l.behind;
  within : l.behind ≤ l.file.end;
  size : l.bytes.size ≡ l.fn.bytes.size;
  inside : EndsBy l.file.end l.bytes.held;
  holds : g.F.Files.holds l.files ≡ g.F.Files.holds l.fn.files;
  faults : g.F.Files.faults l.fn.files ≤ g.F.Files.faults l.files;
  stands : IfTold (g.F.Files.holds l.fn.files) (GoesOnStanding l.file.name.now l.fn.bytes.held l.bytes.held);
  passes : IfTold (g.F.Files.holds l.fn.files) (MeetsNone l.wanted l.file l.fn.bytes.held l.fn.place l.behind);
}

abbrev pub decreases-loop-behind : goal.decreases-loop-behind
decreases-loop-behind g l = l.file.end - l.behind
