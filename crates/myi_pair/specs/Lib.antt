-- what a reader of the contracts must believe

-- the rows that unique keys let stand
pub mod FirstRows
-- the sorted pairs of a key
pub mod KeyList
-- the trees of an index file
pub mod Trees
-- a clean pair of files
pub mod Clean
-- the first failing thing of lists of tests, of deleted blocks, of what a walk meets, and of bytes
pub mod FirstBad
-- what is wrong with a pair
pub mod Findings
-- what is told of each section, by what fails first
pub mod FirstFailing
-- the two files of a table of given rows that is made anew, as bytes
pub mod RebuiltBytes
-- what is to hold of them
pub mod Rebuilt
-- the two files that a repair leaves, as bytes
pub mod RecoveredBytes
-- what is to hold of them
pub mod Recovered
