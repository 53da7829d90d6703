-- what a reader of the contracts must believe

-- the names of a table's two files
pub mod Names
-- a table that is opened, or why it is not
pub mod Opening
