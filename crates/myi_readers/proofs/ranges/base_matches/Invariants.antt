use Rattle.std.proofs.Common.{◌≡◌, ◌≤◌, ◌-◌, ◌^◌, ℕ, List, suc, length}
use Rattle.myi_pack.specs.Packed.{Values}
use Rattle.myi_keycache.specs.Kept.{AllWritten}
use Rattle.myi_keycache.specs.Caching.{pages_of}
use Rattle.myi_keyedrows.specs.KeyedRows.{IfHold, IsLeft}
use Rattle.myi_table.specs.Reading.{IsSameReading, begun}
use Rattle.myi_readers.specs.KeyedRows.{all_keyed}
use Rattle.myi_readers.specs.Ranges.{HoldRange}
use Rattle.myi_readers.proofs.RangeLemmas.{Came}
use Rattle.myi_readers.proofs.ranges.base_matches.Given as goal

abbrev pub invariant-loop-found : goal.invariant-loop-found
invariant-loop-found g l = record {
  reading : IsSameReading (begun l.range) l.reading;
  written : AllWritten (pages_of l.rows.trees.cache);
  left : IsLeft l.fn.rows l.rows;
  name : l.rows.trees.cache.name ≡ l.fn.rows.trees.cache.name;
  holds : g.F.Files.holds l.files ≡ g.F.Files.holds l.fn.files;
  later : g.F.Files.faults l.fn.files ≤ g.F.Files.faults l.files;
  still : IfHold (g.F.Files.holds l.fn.files) l.fn.rows (λ m own s. HoldRange l.defs l.reading l.rows own s m);
  so_far : IfHold (g.F.Files.holds l.fn.files) l.fn.rows (λ m own s. (answer : List (ℕ × Values)) × Came l.defs s (begun l.range) l.reading (g.F.Files.reads l.fn.files) (g.F.Files.reads l.files) answer × (l.found.items ≡ all_keyed l.defs (suc l.range.key) answer));
}

-- memory has an end, also where files tell nothing
abbrev pub decreases-loop-found : goal.decreases-loop-found
decreases-loop-found g l = 2 ^ 64 - length l.found.items
