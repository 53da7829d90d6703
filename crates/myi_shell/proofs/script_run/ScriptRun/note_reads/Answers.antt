use Rattle.std.proofs.Common.{◌≡◌, ◌++◌, refl, ap, subst, ◌∙◌}
use Rattle.myi_rounds.specs.declared.round.WentReads.{WentReads}
use Rattle.myi_shell.specs.declared.script_run.ScriptRun.{ScriptRun}
use Rattle.myi_shell.specs.Beside.{texts_in}
use Rattle.myi_shell.proofs.LoopLemmas.{text_more, texts_end, drop_none}
use Rattle.myi_shell.proofs.script_run.ScriptRun.note_reads.Goals as goal

pub loop-run-preserved : goal.loop-run-preserved
loop-run-preserved c =
    let half = c.loop-run.self.texts in
    let new = c.append.new.self in
    record {
      only = ap (λ (p : ScriptRun). record p { texts = new }) c.loop-run.invariant.only;
      so_far = text_more (λ (w : WentReads). w.texts) texts_in (λ w ws. refl) c.args.self.now.texts half new c.args.reads.now c.loop-run.run-index c.run-item.result c.loop-run-test.true c.loop-run.invariant.so_far
          (subst (λ (w : WentReads). new ≡ half ++ w.texts) c.run-item.is c.in_ok-append.ensures.texts);
    }

pub returns-clause-texts : goal.returns-clause-texts
returns-clause-texts c = texts_end texts_in c.args.self.now.texts c.loop-run.self.texts c.args.reads.now c.loop-run.run-index refl (drop_none c.args.reads.now c.loop-run.run-index c.loop-run-test.false) c.loop-run.invariant.so_far

pub returns-in_err-append-clause-only : goal.returns-in_err-append-clause-only
returns-in_err-append-clause-only c = ap (λ (p : ScriptRun). record p { texts = c.append.new.self }) c.loop-run.invariant.only
