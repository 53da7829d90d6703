-- What a reader of the contracts must believe.

-- a table that is loaded: when it stands for a state, and what a change does
pub mod Table
-- why a change is refused, over any files
pub mod Refusals
-- what the files of an empty table are when it is made
pub mod Creating
-- when a table is loaded, and why it is refused
pub mod Loading
-- rows that are put behind its end one after the other
pub mod Folding
-- what its files are when it is closed
pub mod Closing
-- reading its rows: which are to come
pub mod Reading
-- how refusals are told, and which break a table
pub mod Faults
-- counters together with others
pub mod Counting
-- What serves private contracts.

-- what holds of each loaded table
pub mod Tied
