-- What a reader of the contracts must believe.

-- how a script begins on a table; what was printed of it, and what the closed files are; how the answers are told
pub mod Running
-- damage, and the line on it
pub mod Damage
-- what is left of the tables that take no rows
pub mod Idle
-- ---- what serves the contracts of the crate's own calls

-- what a script is run on
pub mod Targets
-- a statement that changes a table
pub mod Changing
-- a statement that reads one
pub mod Reading
-- what calls on a table leave
pub mod Carrying
-- what the steps of a round do and say where the table is in a state
pub mod Stepping
-- a round whose sessions go side by side
pub mod Beside
