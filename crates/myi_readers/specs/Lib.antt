-- what a reader of the contracts must believe

-- what holds of each reader, and what it knows
pub mod Reader
-- the rows that it knows, by their keys
pub mod Indexes
-- the rows that match bounds
pub mod Ranges
-- how refusals are told
pub mod Faults
-- what serves private contracts

-- rows with their positions
pub mod Placed
-- rows by their keys and positions
pub mod KeyedRows
-- the rows of the base that match, and those that are known
pub mod Matches
