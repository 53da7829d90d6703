-- what a reader of the contracts must believe

-- why a table's index is not sorted
pub mod Refusals
-- what sorting the pages of an index file leaves
pub mod Sorting
-- what serves private contracts

-- the trees that were laid so far
pub mod Laying
