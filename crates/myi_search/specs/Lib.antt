-- what a reader of the contracts must believe

-- the least row of a key, the least pair above another one
pub mod Least
-- the path of a search, and how it ends
pub mod Path
-- a tree that a search goes down
pub mod Trees
-- the setup and the counters of a key cache through calls
pub mod Counting
-- a cursor in the pairs of a tree
pub mod Cursor
-- what serves private contracts

-- codes that are read without their keys
pub mod ReadCodes
-- which pairs a search passes by
pub mod Passing
-- a search that is under way
pub mod Seeking
-- what a search gathers
pub mod Runs
