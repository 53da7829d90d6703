use Rattle.std.proofs.Common.{◌≡◌, ◌≤◌, ◌-◌, ◌^◌, length}
use Rattle.myi_base.specs.Holding.{Told, OthersStay}
use Rattle.myi_search.specs.Counting.{CountsOn}
use Rattle.myi_opening.specs.Names.{index_file}
use Rattle.myi_keyedrows.specs.KeyedRows.{IsLeft}
use Rattle.myi_table.specs.Table.{defs_in, IsKept, IfHolds, StillHolds, IsSame}
use Rattle.myi_table.specs.Reading.{HasKey, IsAhead, IsSameReading, begun}
use Rattle.myi_table.proofs.AllLemmas.{Came}
use Rattle.myi_table.proofs.table.Table.range.Given as goal

abbrev pub invariant-loop-rows : goal.invariant-loop-rows
invariant-loop-rows g l = record {
  key : HasKey l.self l.reading;
  kept : IsKept (g.F.Files.holds l.files) l.self;
  ahead : IfHolds (g.F.Files.holds l.files) l.self (λ m s. IsAhead l.self l.reading s);
  reading : IsSameReading (begun l.range) l.reading;
  still : StillHolds (g.F.Files.holds l.fn.files) (g.F.Files.holds l.files) l.fn.self l.self;
  same : IsSame l.fn.self l.self;
  broken : l.self.broken ≡ l.fn.self.broken;
  changed : l.self.changed ≡ l.fn.self.changed;
  left : IsLeft l.fn.self.rows l.self.rows;
  others : Told (g.F.Files.holds l.fn.files) (g.F.Files.holds l.files) (OthersStay (index_file l.fn.self.name));
  counted : CountsOn l.fn.self.rows.trees.cache l.self.rows.trees.cache;
  later : g.F.Files.faults l.fn.files ≤ g.F.Files.faults l.files;
  so_far : IfHolds (g.F.Files.holds l.fn.files) l.fn.self (λ m s. Came (defs_in l.fn.self) s (begun l.range) l.reading (g.F.Files.reads l.fn.files) (g.F.Files.reads l.files) l.rows.items);
}

-- memory has an end, also where files tell nothing
abbrev pub decreases-loop-rows : goal.decreases-loop-rows
decreases-loop-rows g l = 2 ^ 64 - length l.rows.items
