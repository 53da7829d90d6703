-- what a reader of the contracts must believe

-- places that rise
pub mod Places
-- how the places of a list stand in memory
pub mod Groups
