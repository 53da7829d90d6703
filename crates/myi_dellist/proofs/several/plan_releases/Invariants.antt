use Rattle.std.proofs.Common.{◌≡◌, ◌≤◌, ◌+◌, length}
use Rattle.std.specs.List.{AllByRecursion}
use Rattle.myi_base.specs.Holding.{IfTold, bytes_of}
use Rattle.myi_dellist.specs.Freeing.{hole_in, IsHoleIn}
use Rattle.myi_dellist.specs.Heads.{over}
use Rattle.myi_dellist.specs.Several.{with_heads, heads_in, added_in}
use Rattle.myi_dellist.specs.Replacing.{head_after}
use Rattle.myi_dellist.specs.Freed.{parts_in, IsPart}
use Rattle.myi_dellist.proofs.several.plan_releases.Given as goal

abbrev pub invariant-loop-part : goal.invariant-loop-part
invariant-loop-part g l = record {
  parts : AllByRecursion (IsPart l.list.end) (parts_in l.left);
  heads : AllByRecursion (IsHoleIn l.list.end) l.heads;
  head : head_after l.head (parts_in l.left) ≡ head_after l.fn.list.head (parts_in l.fn.parts);
  holds : g.F.Files.holds l.files ≡ g.F.Files.holds l.fn.files;
  faults : g.F.Files.faults l.fn.files ≤ g.F.Files.faults l.files;
  so_far : IfTold (g.F.Files.holds l.fn.files) (λ m. length (bytes_of l.name m) ≡ l.list.end →
      with_heads l.heads (heads_in (over l.heads (hole_in (bytes_of l.name m))) l.head (parts_in l.left))
      ≡ heads_in (hole_in (bytes_of l.name m)) l.fn.list.head (parts_in l.fn.parts));
  added : IfTold (g.F.Files.holds l.fn.files) (λ m. length (bytes_of l.name m) ≡ l.list.end →
      l.more + added_in (over l.heads (hole_in (bytes_of l.name m))) l.head (parts_in l.left)
      ≡ added_in (hole_in (bytes_of l.name m)) l.fn.list.head (parts_in l.fn.parts));
  few : l.more + length l.left ≤ length l.fn.parts;
}

abbrev pub decreases-loop-part : goal.decreases-loop-part
decreases-loop-part g l = length l.left
