-- what a reader of the contracts must believe

-- the conditions on a cache's setup
pub mod Setup
-- the two lists of a cache, and what an access does to them
pub mod Midpoint
-- a worked run of accesses
pub mod WorkedRun
-- the pages that a cache keeps
pub mod Kept
-- what is lent of a range, and the file with all puts
pub mod Lent
-- the counters after each call
pub mod Counts
-- what each call does to a cache and its file
pub mod Caching
-- what a flush writes
pub mod Flushing
-- what serves private contracts

-- nodes in a ring, and the lists as one
pub mod Ring
-- the pages in one order, and other orders of the same pages
pub mod Order
