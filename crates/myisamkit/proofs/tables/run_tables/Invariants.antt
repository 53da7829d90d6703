use Rattle.std.proofs.Common.{◌≡◌, ◌≢◌, ◌≤◌, None, Some, map, drop, string_bytes}
use Rattle.myi_base.specs.Holding.{Holding, IfTold}
use Rattle.myisamkit.specs.declared.status.Status.TheVariants as status
use Rattle.myisamkit.specs.Statuses.{IsFault}
use Rattle.myisamkit.specs.Turns.{MayFind}
use Rattle.myisamkit.specs.Reading.{tables_left, names_none}
use Rattle.myisamkit.proofs.TableLaws.{Reached}
use Rattle.myisamkit.proofs.tables.run_tables.Given as goal

abbrev pub invariant-loop-word : goal.invariant-loop-word
invariant-loop-word g l = record {
  plain : IsFault l.status → ⊥;
  usage : l.status ≢ status.Usage;
  findings : l.status ≡ status.Findings → MayFind l.fn.options;
  later : g.F.Files.faults l.fn.files ≤ g.F.Files.faults l.files;
  sink_later : g.O.Sink.faults l.fn.out ≤ g.O.Sink.faults l.out;
  untold : g.F.Files.holds l.fn.files ≡ None → g.F.Files.holds l.files ≡ None;
  so_far : IfTold (g.F.Files.holds l.fn.files) (λ m0. (m : Holding) × (g.F.Files.holds l.files ≡ Some m)
      × Reached l.fn.options l.fn.now (tables_left names_none (map (λ w. string_bytes w) l.fn.words)) (tables_left l.names (map (λ w. string_bytes w) (drop l.word-index l.words))) l.status m0 m (g.O.Sink.written l.fn.out) (g.O.Sink.written l.out));
}
