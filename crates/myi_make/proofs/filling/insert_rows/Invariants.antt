use Rattle.std.proofs.Common.{◌≡◌, ◌≤◌, None}
use Rattle.myi_base.specs.Holding.{Told}
use Rattle.myi_table.specs.Table.{IsKept, IsSame, ChangesItsOwn}
use Rattle.myi_make.proofs.RowsLaws.{SoFar}
use Rattle.myi_make.proofs.filling.insert_rows.Given as goal

abbrev pub invariant-loop-i : goal.invariant-loop-i
invariant-loop-i g l = record {
  later : g.F.Files.faults l.fn.files ≤ g.F.Files.faults l.files;
  whole : l.table.broken ≡ None;
  kept : IsKept (g.F.Files.holds l.files) l.table;
  same : IsSame l.fn.table l.table;
  others : ChangesItsOwn (g.F.Files.holds l.fn.files) (g.F.Files.holds l.files) l.fn.table;
  so_far : Told (g.F.Files.holds l.fn.files) (g.F.Files.holds l.files) (λ m n. SoFar l.table l.count l.fn.seed l.i l.x l.blocks.items n);
}
