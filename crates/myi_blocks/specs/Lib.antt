-- What a reader of the contracts has to believe.

-- what refuses a row, and which numbers a change makes
pub mod BlockFile
-- a row that is read from the place of its first block
pub mod RowReading
-- where rows stand, as an object notes it
pub mod Places
-- What serves private contracts.

-- the blocks of a row, one after the other
pub mod RowLinks
-- changes of a row that stands
pub mod Standing
-- the rows that a scan has ahead, noted one after the other
pub mod Noting
