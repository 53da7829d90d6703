-- what a reader of the contracts must believe

-- the definitions that a table of a creating text has
pub mod Said
