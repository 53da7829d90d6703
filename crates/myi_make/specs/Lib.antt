-- what a reader of the contracts must believe

-- the definitions of the table, its rows, and its data file, damaged
pub mod MadeTable
-- what stands in the end
pub mod Making
-- why a table is not made
pub mod Faults
-- What serves private contracts.

-- definitions that are read again, with another state
pub mod Again
-- the rows on the way
pub mod Filling
