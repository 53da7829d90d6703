-- what a reader of the contracts must believe

-- the trees of all keys as one object
pub mod Trees
-- for which lists of pairs the trees stand
pub mod Standing
-- the trees in the bytes of the index file
pub mod InFile
