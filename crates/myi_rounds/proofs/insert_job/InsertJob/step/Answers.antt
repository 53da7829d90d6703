use Rattle.std.proofs.Common.{◌+◌, arith, subst}
use Rattle.myi_rounds.specs.InsertJob.{GoesOn, job_of}
use Rattle.myi_rounds.proofs.InsertJobLemmas.{goes_next, goes_none, noted_behind}
use Rattle.myi_rounds.proofs.insert_job.InsertJob.step.Goals as goal

pub returns-in_err-answer-clause-on : goal.returns-in_err-answer-clause-on
returns-in_err-answer-clause-on g c =
    let shows = g.R.FileReader.holds in
    let s = c.self.inside in
    let i = c.insert_next-answer.new.inserter in
    subst (λ j. GoesOn shows j (job_of i s.lines.now s.steps.now s.done c.reserve.new.self.items)) c.self.view_is
    (goes_none c.put_rows_are_known.ensures.values shows s.inserter i s.lines.now s.steps.now s.done s.replies.items c.reserve.new.self.items c.self.invariant.ready c.insert_next-answer.ensures.on c.in_err-answer.ensures.again c.reserve.ensures.items)

pub returns-clause-on : goal.returns-clause-on
returns-clause-on g c =
    let shows = g.R.FileReader.holds in
    let s = c.self.inside in
    let i = c.insert_next-answer.new.inserter in
    subst (λ j. GoesOn shows j (job_of i s.lines.now s.steps.now (s.done + 1) c.note.new.replies.items)) c.self.view_is
    (goes_next c.put_rows_are_known.ensures.values shows s.inserter i s.lines.now s.steps.now s.done _ s.replies.items c.note.new.replies.items c.in_ok-answer.field-0 c.self.invariant.ready c.insert_next-answer.ensures.on (omega (arith, c.self.invariant.within, c.if-self.false))
    c.in_ok-answer.ensures.answered (noted_behind _ _ _ _ c.note.ensures c.reserve.ensures.items))
