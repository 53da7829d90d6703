-- What the crates above cite. Each lemma states a clause of the law of its group in src/laws.rt.

-- headers_read_back
pub use Rattle.myi_header.proofs.HeaderLaws.{header-long, header-read, header-state, header-marked, header-elsewhere}
-- states_rest_on_the_header
pub use Rattle.myi_header.proofs.HeaderLaws.{state-take, state-rest}
-- empty_tables_are_empty
pub use Rattle.myi_header.proofs.EmptyLaws.{empty-header, empty-read, empty-again}
-- numbers_read_back
pub use Rattle.myi_header.proofs.AnalysisLaws.{numbers-read, numbers-front, numbers-between, numbers-behind, numbers-bits}
