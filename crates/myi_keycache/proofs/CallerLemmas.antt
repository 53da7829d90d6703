-- What the crates above cite. Each lemma states a clause of the law of its group in src/laws.rt.

-- files_show_what_is_lent, calls_follow
pub use Rattle.myi_keycache.proofs.LentLemmas.{lends_file, stays_on, stays_start}
-- pages_stay_apart
pub use Rattle.myi_keycache.proofs.KeptLemmas.{unwritten_kept}
