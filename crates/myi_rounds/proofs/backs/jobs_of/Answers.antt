use Rattle.std.proofs.Common.{rules, ◌<◌, length, [], ◌∷◌, ◌++◌, None, arith, sym, ap, subst, ◌∙◌, length-append}
use Rattle.std.proofs.lemmas.List.{map-id}
use Rattle.std.proofs.lemmas.Iterator.Consumers.{YieldsList-turn, YieldsList-end}
use Rattle.std.proofs.lemmas.Iterator.Adapters.{YieldsList-from_vec}
use Rattle.myi_rounds.specs.declared.job.Job.{Job}
use Rattle.myi_rounds.specs.declared.job.Job.TheVariants as job
use Rattle.myi_rounds.specs.Backs.{MayRead}
use Rattle.myi_rounds.proofs.BackLemmas.{asked_same, job_next, jobs_end}
use Rattle.myi_rounds.proofs.backs.jobs_of.Goals as goal

pub asked_of-reads-requires : goal.asked_of-reads-requires
asked_of-reads-requires g c =
    let t = YieldsList-turn (YieldsList-from_vec {s = c.into_iter-reader-iterator.result} c.args.readers.items (search rules) (search rules)) c.loop-reader.yielded c.loop-reader.reader-iterator c.loop-reader.yielded_by c.next.result c.next.new.self c.in-Some.reader c.in-Some.is c.next.ensures.steps in
    let was = c.loop-reader.invariant in
    omega (arith, t.0, c.requires.count, was.2, c.len.ensures)

pub new-job-requires-clause-ready : goal.new-job-requires-clause-ready
new-job-requires-clause-ready g c κs lives =
    let t = YieldsList-turn (YieldsList-from_vec {s = c.into_iter-reader-iterator.result} c.args.readers.items (search rules) (search rules)) c.loop-reader.yielded c.loop-reader.reader-iterator c.loop-reader.yielded_by c.next.result c.next.new.self c.in-Some.reader c.in-Some.is c.next.ensures.steps in
    let m = subst (MayRead g.R.FileReader.holds c.args.asked.now.lines.now) (sym t.1) (c.requires.ready (length c.loop-reader.yielded) c.in-Some.reader t.0) in
    m.ready

pub new-job-requires-clause-kept : goal.new-job-requires-clause-kept
new-job-requires-clause-kept g c κs lives =
    let t = YieldsList-turn (YieldsList-from_vec {s = c.into_iter-reader-iterator.result} c.args.readers.items (search rules) (search rules)) c.loop-reader.yielded c.loop-reader.reader-iterator c.loop-reader.yielded_by c.next.result c.next.new.self c.in-Some.reader c.in-Some.is c.next.ensures.steps in
    let m = subst (MayRead g.R.FileReader.holds c.args.asked.now.lines.now) (sym t.1) (c.requires.ready (length c.loop-reader.yielded) c.in-Some.reader t.0) in
    m.kept

pub new-job-requires-clause-lines : goal.new-job-requires-clause-lines
new-job-requires-clause-lines g c κs lives =
    let t = YieldsList-turn (YieldsList-from_vec {s = c.into_iter-reader-iterator.result} c.args.readers.items (search rules) (search rules)) c.loop-reader.yielded c.loop-reader.reader-iterator c.loop-reader.yielded_by c.next.result c.next.new.self c.in-Some.reader c.in-Some.is c.next.ensures.steps in
    let m = subst (MayRead g.R.FileReader.holds c.args.asked.now.lines.now) (sym t.1) (c.requires.ready (length c.loop-reader.yielded) c.in-Some.reader t.0) in
    m.lines

pub loop-reader-preserved : goal.loop-reader-preserved
loop-reader-preserved g c =
    let was = c.loop-reader.invariant in
    let t = YieldsList-turn (YieldsList-from_vec {s = c.into_iter-reader-iterator.result} c.args.readers.items (search rules) (search rules)) c.loop-reader.yielded c.loop-reader.reader-iterator c.loop-reader.yielded_by c.next.result c.next.new.self c.in-Some.reader c.in-Some.is c.next.ensures.steps in
    let lt : length c.loop-reader.yielded < length c.args.asked.now.reads.now = omega (arith, t.0, c.requires.count) in
    let ls = c.args.asked.now.lines.now in
    let xs = c.args.asked.now.reads.now in
    let a = c.asked_of-reads.result in
    let same = asked_same ls xs c.len.result a a c.in-Some.reader (c.asked_of-reads.ensures a) in (
      tt,
      tt,
      omega (arith, was.2, c.in_ok-push.ensures.len, length-append c.loop-reader.yielded (c.in-Some.reader ∷ [])),
      job_next ls xs c.loop-reader.yielded c.in-Some.reader c.len.result a c.loop-reader.jobs.items c.push.new.self.items was.3 lt
          (c.in_ok-push.ensures.items ∙ ap (λ j. c.loop-reader.jobs.items ++ job.Reads record { job = j; refused = None } ∷ []) c.new-job.ensures ∙ ap (λ (j : Job _). c.loop-reader.jobs.items ++ j ∷ []) same) (c.len.ensures ∙ was.2),
    )

pub returns : goal.returns
returns g c =
    let t = YieldsList-end (YieldsList-from_vec {s = c.into_iter-reader-iterator.result} c.args.readers.items (search rules) (search rules)) c.loop-reader.yielded c.loop-reader.reader-iterator c.loop-reader.yielded_by c.next.result c.next.new.self c.in-None.is c.next.ensures.steps in
    jobs_end c.args.asked.now.lines.now c.args.asked.now.reads.now c.loop-reader.yielded c.args.readers.items c.loop-reader.jobs.items c.loop-reader.invariant.3 (sym (map-id c.loop-reader.yielded) ∙ t.0) (omega (arith, c.requires.count))
