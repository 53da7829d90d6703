-- What the crates above cite. Each lemma states a clause of the law of its group in src/laws.rt.

-- calls_keep_files
pub use Rattle.myi_keyedrows.proofs.StillLemmas.{step_reached, still_files}
-- trees that were searched, which holds of any files and no clause can say
pub use Rattle.myi_keyedrows.proofs.HoldLemmas.{look_stands}
