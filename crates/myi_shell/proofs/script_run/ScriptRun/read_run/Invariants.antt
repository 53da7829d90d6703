use Rattle.std.proofs.Common.{◌≡◌, ◌≤◌, ◌++◌, map, drop}
use Rattle.myi_history.specs.RoundTexts.{texts_of}
use Rattle.myi_shell.specs.Targets.{defs_in, script_on, IsWhole, IfHolds, StillHolds}
use Rattle.myi_shell.specs.Targets.{IsCarried, IsUntouched}
use Rattle.myi_shell.specs.Stepping.{state_of, seen_by, read_by}
use Rattle.myi_shell.proofs.script_run.ScriptRun.read_run.Given as goal

abbrev pub invariant-loop-step : goal.invariant-loop-step
invariant-loop-step g l = record {
  only : l.self ≡ record l.fn.self { texts = l.self.texts };
  so_far : IfHolds (g.F.Files.holds l.fn.files) l.fn.target (λ m s.
      l.self.texts ++ texts_of (map (read_by (defs_in l.fn.target) (script_on l.fn.target l.lines) (seen_by (state_of l.fn.self)) s) (drop l.step-index l.steps))
      ≡ l.fn.self.texts ++ texts_of (map (read_by (defs_in l.fn.target) (script_on l.fn.target l.lines) (seen_by (state_of l.fn.self)) s) l.steps));
  still : StillHolds (g.F.Files.holds l.fn.files) (g.F.Files.holds l.files) l.fn.target l.target;
  untouched : IsUntouched (g.F.Files.holds l.fn.files) (g.F.Files.holds l.files) l.fn.target l.target;
  carried : IsCarried (g.F.Files.holds l.fn.files) (g.F.Files.holds l.files) l.fn.target l.target;
  whole : IsWhole l.target;
  later : g.F.Files.faults l.fn.files ≤ g.F.Files.faults l.files;
}
