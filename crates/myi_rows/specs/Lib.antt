-- what a reader of the contracts must believe

-- the data file of a table that changes, in either format
pub mod RowFile
-- why a call is refused
pub mod Refusals
-- which bytes a change writes
pub mod Writing
