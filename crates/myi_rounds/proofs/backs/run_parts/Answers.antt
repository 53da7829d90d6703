use Rattle.std.proofs.Common.{List, subst}
use Rattle.myi_rounds.specs.declared.job.Job.{Job}
use Rattle.myi_rounds.specs.Jobs.{JobRan}
use Rattle.myi_rounds.specs.Rounds.{EachOf}
use Rattle.myi_rounds.proofs.PutLemmas.{inserts_back, some_back, ready_back}
use Rattle.myi_rounds.proofs.backs.run_parts.Goals as goal

pub returns-clause-run : goal.returns-clause-run
returns-clause-run g c =
    let shows = g.R.FileReader.holds in
    let i = c.args.parts.inserter in
    let j = c.into_parts-inserter.result.0 in
    let replies = c.into_parts-inserter.result.1.items in
    let ls = c.args.asked.now.lines.now in
    let steps = c.args.asked.now.inserts.now in
    let two = c.in_ok-jobs-2.inserts.job in
    let on = c.in_ok-jobs-2.ensures.inserts in
    record {
      jobs = c.in_ok-jobs-2.jobs.items;
      ran = subst (λ (l : List (Job _)). EachOf (JobRan shows g.R.FileReader.faults) l c.in_ok-jobs-2.jobs.items) c.in_ok-jobs.ensures c.in_ok-jobs-2.ensures.reads;
      within = c.in_ok-readers.ensures.within;
      readers = c.in_ok-readers.ensures.readers;
      reads = c.in_ok-readers.ensures.reads;
      inserts = inserts_back shows i j ls steps c.new-job.result two c.done-inserted.result replies c.new-job.ensures.job on c.into_parts-inserter.ensures.parts c.done-inserted.ensures.done;
      ready = ready_back j two replies c.into_parts-inserter.ensures.parts c.into_parts-inserter.ensures.ready;
      some = some_back shows i ls steps c.new-job.result two c.done-inserted.result c.new-job.ensures.job on c.done-inserted.ensures.within;
    }
