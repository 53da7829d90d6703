-- What a reader of the contracts must believe.

-- the steps of a script's lines, and what the lines of a script that may run meet
pub mod Lines
-- the rows that a read finds
pub mod Reads
-- what a statement answers, and the line that is printed of it
pub mod Answers
-- the rounds of a script on a table, and the changes that the table accepts
pub mod History
-- what a script prints, by the numbers that its reads are given and what its `stats` count
pub mod Text
-- texts of lines, and their order
pub mod RoundTexts
-- which numbers its reads may be given
pub mod Bounds
-- inserts at the end, and the rows that stand before them
pub mod Appending
-- the numbers of a run on one thread, and what the laws say of rounds
pub mod OneThread
-- the numbers of a round whose sessions go side by side
pub mod SideBySide
-- a run that has come so far, and what stands behind it
pub mod Running
