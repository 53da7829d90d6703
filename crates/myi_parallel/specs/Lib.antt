-- what a reader of the contracts must believe

-- the tree of a key that is asked for
pub mod Asked
-- what is asked for of a list of keys, and of those of a table
pub mod KeyPairs
-- the pages of trees that are laid
pub mod LaidTrees
-- what serves private contracts

-- the tree of a key, as it is asked for
pub mod KeyTrees
-- the keys of each worker
pub mod Shares
-- items that go to workers in turn
pub mod Dealing
