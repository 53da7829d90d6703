-- what a reader of the contracts must believe

-- what a check of a table answers
pub mod Checking
-- what serves private contracts

-- what a scan of the data file finds
pub mod Rows
-- ranges of bytes, joined
pub mod HeldBytes
-- what was met of a data file so far
pub mod Met
-- what a walk along the list of deleted blocks has met, and what each block says of the list
pub mod ListMet
-- a walk along the list in memory
pub mod ListWalk
-- the bytes that no page of the next tree may have
pub mod WalksBusy
-- the walk of a tree, as far as it went
pub mod Walks
-- how a row goes on behind a block of it
pub mod ChainReads
-- the walk of a tree of which each pair is asked of its row
pub mod Asked
-- what the walks of all trees show
pub mod Keys
-- what the files show of the numbers of a header
pub mod HeaderShown
-- the sections of a check, and the order of its findings
pub mod Sections
