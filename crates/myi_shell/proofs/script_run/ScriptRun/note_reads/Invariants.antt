use Rattle.std.proofs.Common.{◌≡◌, ◌++◌, drop}
use Rattle.myi_shell.specs.Beside.{texts_in}
use Rattle.myi_shell.proofs.script_run.ScriptRun.note_reads.Given as goal

abbrev pub invariant-loop-run : goal.invariant-loop-run
invariant-loop-run l = record {
  only : l.self ≡ record l.fn.self { texts = l.self.texts };
  so_far : l.self.texts ++ texts_in (drop l.run-index l.reads) ≡ l.fn.self.texts ++ texts_in l.reads;
}
