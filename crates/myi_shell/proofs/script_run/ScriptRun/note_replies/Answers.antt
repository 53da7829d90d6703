use Rattle.std.proofs.Common.{◌≡◌, ◌++◌, List, [], ◌∷◌, map, refl, ap, subst, ◌∙◌}
use Rattle.myi_history.specs.RoundTexts.{texts_of}
use Rattle.myi_rounds.specs.declared.inserting.Replied.{Replied}
use Rattle.myi_rounds.specs.Inserts.{said_of}
use Rattle.myi_shell.specs.declared.script_run.ScriptRun.{ScriptRun}
use Rattle.myi_shell.proofs.LoopLemmas.{texts_end, drop_none}
use Rattle.myi_shell.proofs.ThreadLemmas.{reply_more}
use Rattle.myi_shell.proofs.script_run.ScriptRun.note_replies.Goals as goal

pub loop-reply-preserved : goal.loop-reply-preserved
loop-reply-preserved c =
    let half = c.loop-reply.self.texts in
    let new = c.say.new.self.texts in
    record {
      only = c.say.ensures.only ∙ ap (λ (p : ScriptRun). record p { texts = new }) c.loop-reply.invariant.only;
      so_far = reply_more c.args.self.now.texts half new c.args.replies.now c.loop-reply.reply-index _ _ c.loop-reply-test.true c.loop-reply.invariant.so_far (ap (λ (p : ScriptRun). p.texts) c.in_ok-say.ensures.said);
    }

pub returns-clause-texts : goal.returns-clause-texts
returns-clause-texts c =
    texts_end (λ (rs : List Replied). texts_of (map said_of rs)) c.args.self.now.texts c.loop-reply.self.texts c.args.replies.now c.loop-reply.reply-index refl (drop_none c.args.replies.now c.loop-reply.reply-index c.loop-reply-test.false) c.loop-reply.invariant.so_far

pub returns-in_err-say-clause-only : goal.returns-in_err-say-clause-only
returns-in_err-say-clause-only c = c.say.ensures.only ∙ ap (λ (p : ScriptRun). record p { texts = c.say.new.self.texts }) c.loop-reply.invariant.only
