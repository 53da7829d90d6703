-- what a reader of the contracts must believe

-- areas of a file, and how many bytes belong to them
pub mod Areas
-- what a release does to the list
pub mod Releasing
-- which blocks a row takes
pub mod Placing
-- the list in the bytes of a file
pub mod Standing
-- what a release needs of the blocks that stand in the file
pub mod Freeing
-- what the calls do to list and file
pub mod FreeList
-- a block that is taken off the list by an area before it
pub mod Merging
-- areas in order of place
pub mod Order
-- the blocks of a placed row, and that they are one chain
pub mod RowBlocks
pub mod Rows
-- what a row adds behind the end of a file
pub mod Appending
pub mod Taking
pub mod Planning
pub mod Putting
-- what is seen once headers are written
pub mod Heads
-- several releases, planned before anything is written
pub mod Several
-- the blocks of a row that stands in a file
pub mod Chains
-- a row whose blocks are released
pub mod Freed
-- a row in the place of another
pub mod Replacing
