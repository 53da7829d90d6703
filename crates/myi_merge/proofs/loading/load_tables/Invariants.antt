use Rattle.std.proofs.Common.{◌≡◌, ◌≤◌, map, take, string_bytes}
use Rattle.myi_base.specs.Holding.{IfTold}
use Rattle.myi_table.specs.Table.{OpenTable}
use Rattle.std.specs.List.{AllByRecursion}
use Rattle.myi_merge.specs.Merged.{AreAlike, IsSoundTable}
use Rattle.myi_merge.specs.Loading.{EachLoaded, IsFresh}
use Rattle.myi_merge.proofs.loading.load_tables.Given as goal

abbrev pub invariant-loop-name : goal.invariant-loop-name
invariant-loop-name g l = record {
  loaded : IfTold (g.F.Files.holds l.fn.files) (EachLoaded (map (λ s. string_bytes s) (take l.name-index l.names)) l.tables.items);
  alike : AreAlike l.tables.items;
  fresh : AllByRecursion (IsFresh l.setup) l.tables.items;
  sound : AllByRecursion IsSoundTable l.tables.items;
  named : map (λ (t : OpenTable). t.name) l.tables.items ≡ map (λ s. string_bytes s) (take l.name-index l.names);
  holds : g.F.Files.holds l.files ≡ g.F.Files.holds l.fn.files;
  later : g.F.Files.faults l.fn.files ≤ g.F.Files.faults l.files;
}
