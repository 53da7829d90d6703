-- What a reader of the contracts has to believe; nothing serves private contracts alone.

-- the keys of a table and of its rows
pub mod TableKeys
-- the lists of their pairs
pub mod RowLists
