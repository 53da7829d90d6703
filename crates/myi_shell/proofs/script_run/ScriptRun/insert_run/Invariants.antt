use Rattle.std.proofs.Common.{◌≡◌, ◌≤◌, true, drop}
use Rattle.myi_shell.specs.Targets.{defs_in, script_on, IsWhole, IfHolds}
use Rattle.myi_shell.specs.Targets.{IsCarried, IsTouchedBy}
use Rattle.myi_base.specs.Holding.{Told}
use Rattle.myi_shell.specs.Idle.{LeavesIdle}
use Rattle.myi_shell.specs.Stepping.{state_of}
use Rattle.myi_shell.proofs.StepLemmas.{IsHalfDone}
use Rattle.myi_shell.proofs.script_run.ScriptRun.insert_run.Given as goal

abbrev pub invariant-loop-step : goal.invariant-loop-step
invariant-loop-step g l = record {
  only : l.self ≡ record l.fn.self { number = l.self.number; texts = l.self.texts };
  so_far : IfHolds (g.F.Files.holds l.fn.files) l.fn.target (λ m s.
      IsHalfDone (defs_in l.fn.target) (script_on l.fn.target l.lines) true (state_of l.fn.self) s l.steps (drop l.step-index l.steps) (g.F.Files.holds l.files) l.target (state_of l.self));
  touched : IsTouchedBy (g.F.Files.holds l.fn.files) (g.F.Files.holds l.files) l.fn.target l.target l.fn.self.number l.self.number;
  idle : Told (g.F.Files.holds l.fn.files) (g.F.Files.holds l.files) (LeavesIdle l.fn.target l.lines);
  carried : IsCarried (g.F.Files.holds l.fn.files) (g.F.Files.holds l.files) l.fn.target l.target;
  whole : IsWhole l.target;
  later : g.F.Files.faults l.fn.files ≤ g.F.Files.faults l.files;
}
