-- what a reader of the contracts must believe

-- what reads say that go beside inserts
pub mod Reads
-- the reads of a session as a job
pub mod ReadJob
-- what inserts do and say that go beside reads
pub mod Inserts
-- the inserts of a session as a job
pub mod InsertJob
-- jobs that go on side by side
pub mod Jobs
-- a round whose runs go side by side
pub mod Rounds
-- what cuts a round off
pub mod Faults
-- what serves private contracts

-- the jobs of a round, and what is left of them
pub mod Backs
-- how many words inserts take
pub mod Words
