-- What a reader of the contracts has to believe.

-- a table as rows at positions, and how a row takes space in it
pub mod State
-- changes of a table, one after the other
pub mod Changes
-- what holds of every state of a table
pub mod Sound
-- the numbers of a state
pub mod Numbers
-- a data file that stands for a state
pub mod Standing
-- what a row adds to a file that it is put behind
pub mod Adding
