-- what a reader of the contracts must believe

-- how many bytes a field's length takes
pub mod Lengths
-- the flags of a dynamic row
pub mod Flags
-- which bytes pack a row
pub mod Packed
-- the bytes that a row is written as, and which rows have such
pub mod Spelling
-- which form of a field is written
pub mod Winning
-- what the views of fields show
pub mod Views
-- the row that is read off its bytes from left to right
pub mod Unpacking
-- the values that a walk over a row has before it, which it is in a contract
pub mod Left
-- what serves private contracts

-- where the fields of a dynamic row begin
pub mod Places
