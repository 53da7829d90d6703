-- What the crates above cite. Each lemma states a clause of the law of its group in src/laws.rt.

-- searches_end_once
pub use Rattle.myi_search.proofs.PathLaws.{stopped_once, never_both}
-- the counters of a key cache through calls
pub use Rattle.myi_search.proofs.CountLaws.{counts_none, counts_on, counts_get, counts_put, counts_flush}
-- calls that put nothing
pub use Rattle.myi_search.proofs.Serving.{reads_none, reads_on}
