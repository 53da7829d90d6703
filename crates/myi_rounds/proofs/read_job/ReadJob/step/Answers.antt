use Rattle.std.proofs.Common.{◌+◌, subst, arith, refl}
use Rattle.myi_rounds.specs.ReadJob.{GoesOn}
use Rattle.myi_rounds.proofs.JobLemmas.{job, job_on, goes_next, goes_none}
use Rattle.myi_rounds.proofs.read_job.ReadJob.step.Goals as goal

pub invariant_of-self : goal.invariant_of-self
invariant_of-self g c =
    let s = c.self.inside in
    let q = c.read_next-read.new.reader in
    job_on g.R.FileReader.holds (job s.reader s.lines.now s.steps.now s.done s.taken s.texts) (job q s.lines.now s.steps.now s.done s.taken c.read_next-read.new.texts) c.self.invariant c.read_next-read.ensures.on refl c.self.invariant.within

pub returns-in_err-read-clause-on : goal.returns-in_err-read-clause-on
returns-in_err-read-clause-on g c =
    let s = c.self.inside in
    let q = c.read_next-read.new.reader in
    let shows = g.R.FileReader.holds in
    subst (λ j. GoesOn shows j (job q s.lines.now s.steps.now s.done s.taken c.read_next-read.new.texts)) c.self.view_is
    (goes_none shows s.reader q s.lines.now s.steps.now s.done s.taken s.texts c.read_next-read.new.texts c.read_next-read.ensures.on c.in_err-read.ensures.kept)

pub invariant_of-self-2 : goal.invariant_of-self-2
invariant_of-self-2 g c =
    let s = c.self.inside in
    let q = c.read_next-read.new.reader in
    job_on g.R.FileReader.holds (job s.reader s.lines.now s.steps.now s.done s.taken s.texts) (job q s.lines.now s.steps.now (s.done + 1) s.taken c.read_next-read.new.texts) c.self.invariant c.read_next-read.ensures.on refl (omega (arith, c.self.invariant.within, c.if-self.false))

pub returns-clause-on : goal.returns-clause-on
returns-clause-on g c =
    let s = c.self.inside in
    let q = c.read_next-read.new.reader in
    let shows = g.R.FileReader.holds in
    subst (λ j. GoesOn shows j (job q s.lines.now s.steps.now (s.done + 1) s.taken c.read_next-read.new.texts)) c.self.view_is
    (goes_next shows s.reader q s.lines.now s.steps.now s.done s.taken _ s.texts c.read_next-read.new.texts c.read_next-read.ensures.on (omega (arith, c.self.invariant.within, c.if-self.false)) c.in_ok-read.ensures.said)
