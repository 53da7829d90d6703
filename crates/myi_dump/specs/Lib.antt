-- what a reader of the contracts must believe

-- the lines on the rows of a table
pub mod RowLines
-- what serves private contracts

-- what the steps of a dump do
pub mod Dumping
