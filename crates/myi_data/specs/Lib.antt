-- what a reader of the contracts must believe

-- the slots of static rows
pub mod Slots
-- the readable rows and the deleted blocks of a table, in both formats
pub mod Readable
-- static tables whose fields are all NORMAL
pub mod Plain
-- files that are only rows, each spelled anew
pub mod Stored
-- the key of a row
pub mod Keys
-- what a scan is, and what its calls answer
pub mod Scanning
-- that a scan of either format is such a one
pub mod Inner
-- what an object on a data file shows
pub mod DataFile
-- what serves private contracts

-- the bytes of slots
pub mod SlotBytes
-- the two things that hold them
pub mod Held
-- the next slot from a place on
pub mod NextSlot
