-- What the crates above cite. Each lemma states a clause of the law of its group in src/laws.rt.

-- pages_read_back
pub use Rattle.myi_keypage.proofs.ShownIn.{page_again}
-- entries_fit
pub use Rattle.myi_keypage.proofs.FitLaws.{page_length, page_writable, front_used, entry_least, two_used}
