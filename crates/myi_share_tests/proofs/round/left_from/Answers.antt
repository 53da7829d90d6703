use Rattle.std.proofs.Common.{rules, ◌∙◌, ap, sym, subst, All, length, List, [], ◌∷◌}
use Rattle.std.proofs.lemmas.List.Elements.{All-append, All-cons, All-nil}
use Rattle.std.proofs.lemmas.Iterator.Consumers.{YieldsList-turn}
use Rattle.std.proofs.lemmas.Iterator.Adapters.{YieldsList-from_vec}
use Rattle.case_lines.specs.declared.untold.UntoldReader.{UntoldReader}
use Rattle.myi_readers.specs.declared.file_reader.Reader.{Reader}
use Rattle.myi_share_tests.specs.Parts.{IsReadPart}
use Rattle.myi_share_tests.specs.Jobs.{part_of}
use Rattle.myi_share_tests.proofs.round.left_from.Goals as goal

pub loop-job-preserved-in-Put : goal.loop-job-preserved-in-Put
loop-job-preserved-in-Put c =
    let t = YieldsList-turn (YieldsList-from_vec {s = c.into_iter-job-iterator.result} c.args.jobs.items (search rules) (search rules)) c.loop-job.yielded c.loop-job.job-iterator c.loop-job.yielded_by c.next.result c.next.new.self c.in-Some.job c.in-Some.is c.next.ensures.steps in (
      tt,
      tt,
      λ part all.
          let mine = ap part_of (sym c.in-Put.is) ∙ (ap part_of t.1 ∙ all (length c.loop-job.yielded) c.in-Some.job t.0) in
          ((c.into_inserter.ensures.part ∙ mine, c.into_inserter.ensures.ready), (c.loop-job.invariant.2 part all).1),
    )

pub loop-job-preserved : goal.loop-job-preserved
loop-job-preserved c =
    let t = YieldsList-turn (YieldsList-from_vec {s = c.into_iter-job-iterator.result} c.args.jobs.items (search rules) (search rules)) c.loop-job.yielded c.loop-job.job-iterator c.loop-job.yielded_by c.next.result c.next.new.self c.in-Some.job c.in-Some.is c.next.ensures.steps in (
      tt,
      tt,
      λ part all.
          let mine = ap part_of (sym c.in-Read.is) ∙ (ap part_of t.1 ∙ all (length c.loop-job.yielded) c.in-Some.job t.0) in
          let was = c.loop-job.invariant.2 part all in
          let Fits = λ (r : Reader UntoldReader). IsReadPart part r.table in
          (was.0, subst (λ (rs : List (Reader UntoldReader)). All Fits rs) (sym (search rules)) (All-append Fits c.loop-job.readers.items (c.into_reader.result ∷ []) was.1 (All-cons Fits c.into_reader.result [] (c.into_reader.ensures.part ∙ mine, c.into_reader.ensures.ready) (All-nil Fits)))),
    )
