use Rattle.std.proofs.Common.{rules, List, [], ◌∷◌, ◌++◌, arith, sym, ap, subst, ◌∙◌}
use Rattle.std.proofs.lemmas.List.{map-id}
use Rattle.std.proofs.lemmas.Iterator.Consumers.{YieldsList-end}
use Rattle.std.proofs.lemmas.Iterator.Adapters.{YieldsList-from_vec}
use Rattle.myi_readers.specs.declared.file_reader.Reader.{Reader}
use Rattle.myi_rounds.specs.declared.job.Job.{Job}
use Rattle.myi_rounds.specs.declared.round.WentReads.{WentReads}
use Rattle.myi_rounds.specs.Backs.{readers_in, went_in, AreWithin}
use Rattle.myi_rounds.proofs.BackLemmas.{readers_more, readers_skip, went_more, went_skip, within_more, within_skip, went_same}
use Rattle.myi_rounds.proofs.backs.readers_of.Goals as goal

pub loop-job-preserved-in_default : goal.loop-job-preserved-in_default
loop-job-preserved-in_default g c =
    let was = c.loop-job.invariant in
    let js = c.loop-job.yielded in
    let j = c.in-Some.job in (
      tt,
      tt,
      was.2 ∙ sym (readers_skip js j c.in_default.not-Reads),
      was.3 ∙ sym (went_skip js j c.in_default.not-Reads),
      within_skip js j c.in_default.not-Reads was.4,
    )

pub loop-job-preserved : goal.loop-job-preserved
loop-job-preserved g c =
    let was = c.loop-job.invariant in
    let run = c.in-Reads.run' in
    let js = c.loop-job.yielded in
    let went = went_same c.done-done.result run.job.done c.into_parts-reader.result.1 run.job.texts c.done-done.ensures.done c.into_parts-reader.ensures.texts in (
      tt,
      tt,
      c.in_ok-push.ensures.items ∙ ap (λ (r : Reader _). c.loop-job.readers.items ++ r ∷ []) c.into_parts-reader.ensures.reader ∙ ap (λ l. l ++ run.job.reader ∷ []) was.2 ∙ sym (readers_more js run) ∙ ap (λ (j : Job _). readers_in (js ++ j ∷ [])) (sym c.in-Reads.is),
      c.in_ok-push-2.ensures.items ∙ ap (λ (w : WentReads). c.loop-job.reads.items ++ w ∷ []) went ∙ ap (λ (l : List WentReads). l ++ record { done = run.job.done; texts = run.job.texts } ∷ []) was.3 ∙ sym (went_more js run) ∙ ap (λ (j : Job _). went_in (js ++ j ∷ [])) (sym c.in-Reads.is),
      subst (λ (j : Job _). AreWithin (js ++ j ∷ [])) (sym c.in-Reads.is) (within_more js run was.4 (omega (arith, c.done-done.ensures.done, c.done-done.ensures.within))),
    )

pub returns : goal.returns
returns g c =
    let t = YieldsList-end (YieldsList-from_vec {s = c.into_iter-job-iterator.result} c.args.jobs.items (search rules) (search rules)) c.loop-job.yielded c.loop-job.job-iterator c.loop-job.yielded_by c.next.result c.next.new.self c.in-None.is c.next.ensures.steps in
    let all = sym (map-id c.loop-job.yielded) ∙ t.0 in
    record { readers = c.loop-job.invariant.2 ∙ ap readers_in all; reads = c.loop-job.invariant.3 ∙ ap went_in all; within = subst AreWithin all c.loop-job.invariant.4 }
