-- What a reader of the contracts has to believe.

-- changes of a table with keys: what a table is, refusals in their order, steps, and histories
pub mod Keyed
-- the pairs that the tree of a key has
pub mod Listed
-- the rows whose key lies between bounds
pub mod Matching
-- a pair of files that stands for a table
pub mod Standing
