-- what a reader of the contracts must believe

-- the parts of a sharing
pub mod Sharing
-- how a table is taken back
pub mod Taking
-- how refusals are told
pub mod Faults
-- what serves private contracts

-- reader objects of files
pub mod Opening
