use Rattle.std.proofs.Common.{◌≡◌, ◌≤◌, length}
use Rattle.myi_rounds.specs.InsertJob.{faults_of, GoesOn}
use Rattle.myi_rounds.proofs.insert_job.InsertJob.run.Given as goal

abbrev pub invariant-loop : goal.invariant-loop
invariant-loop g l = record {
  on : GoesOn g.R.FileReader.holds l.fn.self l.self;
  done : l.self.done ≡ l.counter;
  within : l.self.done ≤ length l.fn.self.steps;
  later : faults_of g.R.FileReader.faults l.fn.self.files ≤ faults_of g.R.FileReader.faults l.self.files;
}
