-- what a reader of the contracts must believe

-- rows that come behind the end of a table
pub mod Appended
-- the rows that known words spell
pub mod Known
-- what a reader sees
pub mod Seen
-- what contracts see of the rows that a reader knows
pub mod Knowing
