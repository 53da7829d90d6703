use Rattle.std.proofs.Common.{◌≡◌, ◌≤◌, length}
use Rattle.std.specs.List.{AllByRecursion}
use Rattle.myi_base.specs.Holding.{IfTold, bytes_of}
use Rattle.myi_dellist.specs.Chains.{to_come, IsRowBlock}
use Rattle.myi_dellist.proofs.ChainLemmas.{ReadsOn, BeginsAt}
use Rattle.myi_dellist.proofs.chains.read_row.Given as goal

abbrev pub invariant-loop-next : goal.invariant-loop-next
invariant-loop-next g l = record {
  blocks : AllByRecursion (IsRowBlock l.end) l.own.items;
  begins : BeginsAt l.next l.at l.end;
  holds : g.F.Files.holds l.files ≡ g.F.Files.holds l.fn.files;
  faults : g.F.Files.faults l.fn.files ≤ g.F.Files.faults l.files;
  so_far : IfTold (g.F.Files.holds l.fn.files) (λ m. length (bytes_of l.name m) ≡ l.end → ReadsOn (bytes_of l.name m) l.at l.own.items l.next);
}

abbrev pub decreases-loop-next : goal.decreases-loop-next
decreases-loop-next g l = to_come l.next
