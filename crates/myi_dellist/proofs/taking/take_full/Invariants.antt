use Rattle.std.proofs.Common.{◌≡◌, ◌≤◌, List, length}
use Rattle.myi_base.specs.Holding.{IfTold, bytes_of}
use Rattle.myi_dellist.specs.Taking.{IsRun, HasTaken, TakesFull}
use Rattle.myi_dellist.specs.Areas.{Area}
use Rattle.myi_dellist.proofs.taking.take_full.Given as goal

abbrev pub invariant-loop-next : goal.invariant-loop-next
invariant-loop-next g l = record {
  run : IsRun l.list.end l.len l.pieces.items (record { left = l.left; last = l.last; next = l.next });
  before : length l.fn.pieces.items ≤ length l.pieces.items;
  holds : g.F.Files.holds l.files ≡ g.F.Files.holds l.fn.files;
  faults : g.F.Files.faults l.fn.files ≤ g.F.Files.faults l.files;
  so_far : IfTold (g.F.Files.holds l.fn.files) (λ m. length (bytes_of l.name m) ≡ l.list.end → (own : List Area) → HasTaken own l.len l.fn.pieces.items l.fn.left → TakesFull own (bytes_of l.name m) l.list.head l.len l.pieces.items (record { left = l.left; last = l.last; next = l.next }));
}

abbrev pub decreases-loop-next : goal.decreases-loop-next
decreases-loop-next g l = l.left
