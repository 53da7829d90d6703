-- what a reader of the contracts must believe

-- the rows of a table that words spell
pub mod Rows
-- what serves private contracts

-- rows one after the other in one list of bytes
pub mod Pieces
