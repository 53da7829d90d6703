-- what a reader of the contracts must believe

-- which pairs are still to come, and what is asked of the two files
pub mod Ranges
