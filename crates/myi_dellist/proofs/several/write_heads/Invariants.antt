use Rattle.std.proofs.Common.{◌≤◌, length}
use Rattle.std.specs.List.{AllByRecursion}
use Rattle.myi_base.specs.Holding.{Told}
use Rattle.myi_dellist.specs.Freeing.{IsLinkable}
use Rattle.myi_dellist.proofs.SightLemmas.{WritesOn}
use Rattle.myi_dellist.proofs.several.write_heads.Given as goal

abbrev pub invariant-loop-head : goal.invariant-loop-head
invariant-loop-head g l = record {
  linkable : AllByRecursion IsLinkable l.left;
  faults : g.F.Files.faults l.fn.files ≤ g.F.Files.faults l.files;
  so_far : Told (g.F.Files.holds l.fn.files) (g.F.Files.holds l.files) (WritesOn l.name l.fn.heads l.left);
}

abbrev pub decreases-loop-head : goal.decreases-loop-head
decreases-loop-head g l = length l.left
