-- what a reader of the contracts must believe

-- what is a MERGE list, and what it says
pub mod MergeList
-- what serves private contracts

-- how lines are read
pub mod Reading
