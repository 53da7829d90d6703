-- what a reader of the contracts must believe

-- what a key is, and when it is complete
pub mod Limits
-- the order of keys
pub mod Order
-- the code of a key
pub mod Codes
-- codes compared as keys
pub mod Comparing
-- the first bad place of bytes that are no code
pub mod Faults
-- collations and their weights of a byte
pub mod Collations
-- the weights of a content
pub mod Weights
-- the number of an integer
pub mod Integers
-- what serves private contracts

-- codes read from left to right
pub mod Decoding
-- the order's laws, for the impls of `Ord`
pub mod OrderLaws
