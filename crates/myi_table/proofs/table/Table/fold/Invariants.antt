use Rattle.std.proofs.Common.{◌≡◌, ◌≤◌, ◌<◌, true, None}
use Rattle.myi_search.specs.Counting.{CountsOn}
use Rattle.myi_table.specs.Table.{IsKept, IsSame, ChangesItsOwn}
use Rattle.myi_table.proofs.FoldLemmas.{FoldsTo}
use Rattle.myi_table.proofs.table.Table.fold.Given as goal

-- the first so many rows were put
abbrev pub invariant-loop-i : goal.invariant-loop-i
invariant-loop-i g l = record {
  folds : FoldsTo l.rows l.i (g.F.Files.holds l.fn.files) (g.F.Files.holds l.files) l.fn.self l.self;
  kept : IsKept (g.F.Files.holds l.files) l.self;
  same : IsSame l.fn.self l.self;
  whole : l.self.broken ≡ None;
  was : l.fn.self.broken ≡ None;
  others : ChangesItsOwn (g.F.Files.holds l.fn.files) (g.F.Files.holds l.files) l.fn.self;
  counted : CountsOn l.fn.self.rows.trees.cache l.self.rows.trees.cache;
  changed : 0 < l.i → l.self.changed ≡ true;
  none : l.i ≡ 0 → l.self ≡ l.fn.self;
  marked : l.fn.self.changed ≡ true → l.self.changed ≡ true;
  faults : g.F.Files.faults l.fn.files ≤ g.F.Files.faults l.files;
}
