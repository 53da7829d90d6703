-- what a reader of the contracts must believe

-- the bytes of a tree that is laid anew
pub mod LaidBytes
-- a tree that is laid anew into another file
pub mod Copying
-- what serves private contracts

-- trees that are laid one behind the other
pub mod Turns
