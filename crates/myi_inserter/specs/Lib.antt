-- what a reader of the contracts must believe

-- what holds of each inserter, and what a call answers
pub mod Inserter
-- the rows that were put, as they stand
pub mod Put
-- the complete keys of rows in unique keys
pub mod UniqueKeys
-- how refusals are told
pub mod Faults
-- what serves private contracts

-- keys of a map
pub mod KeyLaws
-- a row that is ready, before and after it is put
pub mod Putting
