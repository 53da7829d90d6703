-- What a reader of the contracts has to believe.

-- the lists of all keys, and a row's pairs in them
pub mod RowLists
-- the first unique key in which another row has the complete key of a row
pub mod Duplicates
-- where the trees of a table stand
pub mod Places
