-- what a reader of the contracts must believe

-- the names of a table's files
pub mod Names
-- what a text stands for, and what the files of its table hold
pub mod Creating
