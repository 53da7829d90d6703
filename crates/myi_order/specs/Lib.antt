-- what a reader of the contracts must believe

-- how many rows go to one prefix of a key
pub mod Prefixes
-- the rows per prefix of all keys of a table
pub mod KeyParts
-- the numbers of all keys, as an index file has them
pub mod Numbers
-- the faults of an analysis and of sorting
pub mod Faults
-- what an analysis answers and leaves
pub mod Analyzing
-- the rows of a table in the order of a key
pub mod InOrder
-- what sorting answers and leaves
pub mod Sorting
-- how a call that sorts a table ends
pub mod Outcome
-- what serves private contracts

-- how many segments keys share
pub mod Shared
-- what was counted of pairs that come in order
pub mod PrefixCounts
-- the rows per prefix by the lists of all keys
pub mod Listed
-- what was read of a table's rows
pub mod Counting
-- how the blocks of a row are read one after the other
pub mod RowLinks
-- a part of a data file that is held
pub mod Nearby
-- a readable row at its place
pub mod AtPlaces
-- what is written of a table whose rows are sorted
pub mod NewOrder
-- its two files then
pub mod SortedFiles
-- a piece of a file that is copied
pub mod Copying
-- new numbers in an index file
pub mod Storing
