-- what a reader of the contracts must believe

-- which contents there are, and how they are written
pub mod Values
-- what a statement and a line are
pub mod Grammar
-- a script, and the first line that is not in the grammar
pub mod Script
-- what serves private contracts

-- how lines are read
pub mod Reading
