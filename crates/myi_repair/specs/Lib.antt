-- what a reader of the contracts must believe

-- how many faults of the files an answer tells of
pub mod Faults
-- the four files of a table, and what a repair leaves of others
pub mod Names
-- the table of a name, or why it cannot be repaired
pub mod Opening
-- how a call on a table's files ends
pub mod Outcome
-- what was gathered
pub mod Gathering
-- what building the trees leaves
pub mod Building
-- what the end of a repair does
pub mod Finishing
-- what a repair does to the files
pub mod Repaired
-- how much of a row blocks take; the start of a row of 2^24 bytes and more
pub mod Giant
-- pairs that can be laid
pub mod Sized
-- trees that are laid in memory
pub mod LaidInMemory
-- what serves private contracts

-- the rows that came so far
pub mod Keeping
