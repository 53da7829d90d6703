use Rattle.std.proofs.Common.{◌≡◌, ◌++◌, take}
use Rattle.myi_shell.specs.Stepping.{state_of}
use Rattle.myi_shell.specs.Beside.{AreAsked}
use Rattle.myi_shell.proofs.script_run.ScriptRun.asked_reads.Given as goal

abbrev pub invariant-loop-run : goal.invariant-loop-run
invariant-loop-run l = record {
  so_far : AreAsked (state_of l.self) (take l.run-index l.runs) l.asked.items;
}
