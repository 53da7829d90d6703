-- What the crates above cite. Each lemma but those of jobs states a clause of a law in src/laws.rt.

-- said_stays_said
pub use Rattle.myi_rounds.proofs.SaidLemmas.{knows_more}
pub use Rattle.myi_rounds.proofs.FitLemmas.{begun, all_behind}
-- jobs_fit_their_runs
pub use Rattle.myi_rounds.proofs.FitLemmas.{rising, of_take, all_said}
-- jobs_insert_as_their_runs
pub use Rattle.myi_rounds.proofs.InsertLemmas.{none_inserted, same_changes, same_said}
-- jobs that go on, and then on again, over any reader objects
pub use Rattle.myi_rounds.proofs.JobLemmas.{goes_self, goes_then, job_on}
