-- What a reader of the contracts must believe.

-- a MERGE list that is loaded: when its tables stand for states
pub mod Merged
-- when it is loaded, and why it is refused
pub mod Loading
-- the rows that are read of it
pub mod Reading
-- rows that are inserted in it, and its tables when they are closed
pub mod Changing
-- What serves private contracts.

-- the next rows of several tables
pub mod Merging
