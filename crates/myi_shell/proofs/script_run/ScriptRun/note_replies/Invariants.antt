use Rattle.std.proofs.Common.{◌≡◌, ◌++◌, map, drop}
use Rattle.myi_history.specs.RoundTexts.{texts_of}
use Rattle.myi_rounds.specs.Inserts.{said_of}
use Rattle.myi_shell.proofs.script_run.ScriptRun.note_replies.Given as goal

abbrev pub invariant-loop-reply : goal.invariant-loop-reply
invariant-loop-reply l = record {
  only : l.self ≡ record l.fn.self { texts = l.self.texts };
  so_far : l.self.texts ++ texts_of (map said_of (drop l.reply-index l.replies)) ≡ l.fn.self.texts ++ texts_of (map said_of l.replies);
}
