-- statements of lines
pub mod StatementLemmas
-- what a reader finds, and what stays of it
pub mod FindLemmas
pub mod ReaderLemmas
-- what the reads of a session said
pub mod SaidLemmas
-- jobs that go on
pub mod JobLemmas
-- what the inserts of a session did, and their job
pub mod InsertLemmas
pub mod InsertJobLemmas
-- the numbers of a job's reads
pub mod FitLemmas
-- the jobs of a round, and what is left of them
pub mod EachLemmas
pub mod BackLemmas
pub mod PutLemmas
pub mod RoundLemmas
-- how many words inserts take
pub mod WordLemmas
-- what the crates above cite
pub mod CallerLemmas
