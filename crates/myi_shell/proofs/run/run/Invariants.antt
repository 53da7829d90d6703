use Rattle.std.proofs.Common.{◌≡◌, ◌≤◌}
use Rattle.myi_base.specs.Holding.{IfTold, Told}
use Rattle.myi_defs.specs.Sound.{IsSound}
use Rattle.myi_locks.specs.Laws.{steps_left, IsLawful}
use Rattle.myi_shell.specs.Targets.{defs_in, script_on, IsWhole, IfHolds}
use Rattle.myi_shell.specs.Targets.{IsCarried}
use Rattle.myi_shell.specs.Damage.{Extends}
use Rattle.myi_shell.specs.Idle.{LeavesIdle}
use Rattle.myi_shell.specs.Stepping.{state_of}
use Rattle.myi_shell.specs.Running.{opening_on, standing, HasDone}
use Rattle.myi_shell.proofs.run.run.Given as goal

abbrev pub invariant-loop-state : goal.invariant-loop-state
invariant-loop-state g l = record {
  done : IfHolds (g.F.Files.holds l.fn.files) l.fn.target (λ m s.
      HasDone (opening_on (defs_in l.fn.target) (script_on l.fn.target l.lines) l.setting s) (standing (g.O.Sink.written l.fn.out) (g.F.Files.holds l.fn.files) l.fn.target) (g.F.Files.holds l.files) (state_of l.state) l.target (g.O.Sink.written l.out));
  idle : Told (g.F.Files.holds l.fn.files) (g.F.Files.holds l.files) (LeavesIdle l.fn.target l.lines);
  carried : IsCarried (g.F.Files.holds l.fn.files) (g.F.Files.holds l.files) l.fn.target l.target;
  whole : IsWhole l.target;
  sound : IsSound (defs_in l.target);
  lawful : IsLawful l.state.locks.sessions;
  printed : IfTold (g.O.Sink.written l.fn.out) (Extends (g.O.Sink.written l.out));
  file : g.F.Files.faults l.fn.files ≤ g.F.Files.faults l.files;
  sink : g.O.Sink.faults l.fn.out ≤ g.O.Sink.faults l.out;
}

abbrev pub decreases-loop-state : goal.decreases-loop-state
decreases-loop-state g l = steps_left l.state.locks.sessions
