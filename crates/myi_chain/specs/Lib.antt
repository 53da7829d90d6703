-- what a reader of the contracts must believe

-- chains of blocks
pub mod Chain
-- the readable rows of a file, and the deleted blocks that are passed
pub mod Readable
-- what is met: rows that pack, in order, with no byte in two of them
pub mod Meeting
-- files that are only rows, one block each
pub mod Laid
-- files of rows in any blocks and of deleted blocks
pub mod Parts
-- the bytes of a row that is answered
pub mod Pieces
-- what a scan is, what is left of its file, and what its calls leave
pub mod ScanModel
-- used ranges: the one from the file's start, and what a scan can tell of them
pub mod Used
-- what serves private contracts

-- a file that is read through a window, block by block
pub mod Source
-- what a scan finds at a place
pub mod Found
