-- What a reader of the contracts has to believe; nothing serves private contracts alone.

-- the types of blocks, and what their headers hold
pub mod Form
-- the block at a place of a file
pub mod Block
-- what is seen of a block by the bytes of a window
pub mod Seeing
-- least sizes, and how many row bytes there is room for
pub mod Sizes
-- the bytes of a block that is written
pub mod Writing
-- what holds of blocks, for laws
pub mod Rules
