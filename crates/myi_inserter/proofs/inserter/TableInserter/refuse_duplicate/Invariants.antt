use Rattle.std.proofs.Common.{◌≡◌, ◌≤◌, List, take, None}
use Rattle.myi_pack.specs.Packed.{Values}
use Rattle.myi_tablestate.specs.Keyed.{first_holder}
use Rattle.myi_keyedrows.specs.KeyedRows.{HoldTable, IfHold}
use Rattle.myi_snapshots.specs.Appended.{with_rows}
use Rattle.myi_inserter.specs.UniqueKeys.{unique_keys, FindsNone}
use Rattle.myi_inserter.specs.Inserter.{IsInserter, IsSearched}
use Rattle.myi_inserter.proofs.SearchLemmas.{numbers}
use Rattle.myi_inserter.proofs.inserter.TableInserter.refuse_duplicate.Given as goal

-- no row has one of the first so many keys
abbrev pub invariant-loop-i : goal.invariant-loop-i
invariant-loop-i g l = record {
  none : IfHold (g.F.Files.holds l.fn.files) l.fn.self.rows (λ m own base. (rows : List Values) → IsInserter l.fn.self rows → (row : Values) → l.keys ≡ unique_keys l.fn.self.defs row
      → first_holder l.fn.self.defs row (with_rows l.fn.self.defs base rows).rows (take l.i (numbers l.fn.self.defs row)) ≡ None);
  absent : FindsNone l.fn.self.put (take l.i l.keys);
  searched : IsSearched l.fn.self l.self;
  still : IfHold (g.F.Files.holds l.fn.files) l.fn.self.rows (λ m own base. HoldTable l.self.rows own base m);
  holds : g.F.Files.holds l.files ≡ g.F.Files.holds l.fn.files;
  faults : g.F.Files.faults l.fn.files ≤ g.F.Files.faults l.files;
}
