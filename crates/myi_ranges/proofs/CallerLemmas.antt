-- What the crates above cite. Each lemma states a clause of the law of its group in src/laws.rt.

-- pointers_lead_to_rows
pub use Rattle.myi_ranges.proofs.RowLemmas.{position_named}
