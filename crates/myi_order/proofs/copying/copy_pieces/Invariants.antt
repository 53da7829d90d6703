use Rattle.std.proofs.Common.{◌-◌, ◌≤◌}
use Rattle.myi_base.specs.Holding.{Told, OthersStay}
use Rattle.myi_order.proofs.CopyLaws.{CopiedTo}
use Rattle.myi_order.proofs.copying.copy_pieces.Given as goal

-- what stands before here is copied
abbrev pub invariant-loop-at : goal.invariant-loop-at
invariant-loop-at g l = record {
  copied : Told (g.F.Files.holds l.fn.files) (g.F.Files.holds l.files) (CopiedTo l.from l.to l.size l.at);
  others : Told (g.F.Files.holds l.fn.files) (g.F.Files.holds l.files) (OthersStay l.to);
  later : g.F.Files.faults l.fn.files ≤ g.F.Files.faults l.files;
  within : l.at ≤ l.size;
}

abbrev pub decreases-loop-at : goal.decreases-loop-at
decreases-loop-at g l = l.size - l.at
