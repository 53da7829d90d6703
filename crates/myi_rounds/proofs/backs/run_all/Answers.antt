use Rattle.std.proofs.Common.{subst}
use Rattle.myi_rounds.specs.declared.job.Job.TheVariants as job
use Rattle.myi_rounds.specs.Jobs.{JobRan}
use Rattle.myi_rounds.proofs.InsertJobLemmas.{goes_self}
use Rattle.myi_rounds.proofs.BackLemmas.{ran_each, ran_last}
use Rattle.myi_rounds.proofs.backs.run_all.Goals as goal

pub returns-then-count-eq0-clause-reads : goal.returns-then-count-eq0-clause-reads
returns-then-count-eq0-clause-reads g c = ran_each g.R.FileReader.holds g.R.FileReader.faults c.args.jobs.len c.args.jobs.items c.as_mut_slice.result.now c.run_side_by_side.new.jobs c.args.jobs.ok.0 c.as_mut_slice.ensures.value c.run_side_by_side.auto.jobs c.run_side_by_side.ensures

pub returns-then-count-eq0-clause-inserts : goal.returns-then-count-eq0-clause-inserts
returns-then-count-eq0-clause-inserts g c = goes_self g.R.FileReader.holds c.args.inserts.job

pub unreachable-requires-in_default-last : goal.unreachable-requires-in_default-last
unreachable-requires-in_default-last g c =
    let v = c.push.new.self in
    let ran = ran_each g.R.FileReader.holds g.R.FileReader.faults v.len v.items c.as_mut_slice-2.result.now c.run_side_by_side-2.new.jobs v.ok.0 c.as_mut_slice-2.ensures.value c.run_side_by_side-2.auto.jobs c.run_side_by_side-2.ensures in
    let both = ran_last g.R.FileReader.holds g.R.FileReader.faults c.args.jobs.items c.pop.new.self.items _ v.items (job.Inserts c.args.inserts) c.in-Some.last c.pop.result c.in_ok-push.ensures.items c.pop.ensures.items c.in-Some.is ran in
    absurd (subst (JobRan g.R.FileReader.holds g.R.FileReader.faults (job.Inserts c.args.inserts)) c.in_default-last.is both.1)

pub returns-clause-reads : goal.returns-clause-reads
returns-clause-reads g c =
    let v = c.push.new.self in
    let ran = ran_each g.R.FileReader.holds g.R.FileReader.faults v.len v.items c.as_mut_slice-2.result.now c.run_side_by_side-2.new.jobs v.ok.0 c.as_mut_slice-2.ensures.value c.run_side_by_side-2.auto.jobs c.run_side_by_side-2.ensures in
    (ran_last g.R.FileReader.holds g.R.FileReader.faults c.args.jobs.items c.pop.new.self.items _ v.items (job.Inserts c.args.inserts) c.in-Some.last c.pop.result c.in_ok-push.ensures.items c.pop.ensures.items c.in-Some.is ran).0

pub returns-clause-inserts : goal.returns-clause-inserts
returns-clause-inserts g c =
    let v = c.push.new.self in
    let ran = ran_each g.R.FileReader.holds g.R.FileReader.faults v.len v.items c.as_mut_slice-2.result.now c.run_side_by_side-2.new.jobs v.ok.0 c.as_mut_slice-2.ensures.value c.run_side_by_side-2.auto.jobs c.run_side_by_side-2.ensures in
    let both = ran_last g.R.FileReader.holds g.R.FileReader.faults c.args.jobs.items c.pop.new.self.items _ v.items (job.Inserts c.args.inserts) c.in-Some.last c.pop.result c.in_ok-push.ensures.items c.pop.ensures.items c.in-Some.is ran in
    let one = subst (JobRan g.R.FileReader.holds g.R.FileReader.faults (job.Inserts c.args.inserts)) c.in-Inserts.is both.1 in
    one.on
