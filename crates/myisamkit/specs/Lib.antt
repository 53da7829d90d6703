-- what a reader of the contracts must believe

-- the words of a command
pub mod Words
-- numbers among them
pub mod Numbers
-- which options are known, and what they ask for together
pub mod Options
-- the same of the options of `shell`
pub mod ShellOptions
-- what accepted words ask for; why words are refused
pub mod Asked
-- the printed lines
pub mod Lines
-- the lines that describe a table
pub mod Descriptions
-- the statuses
pub mod Statuses
-- a table's turn in a run
pub mod Turns
-- what the making of a table says and leaves
pub mod Creates
-- what the making of a table of rows says and leaves
pub mod Makes
-- what a dump of a table says
pub mod Dumps
-- what the run of a script on a table or a list says and leaves
pub mod Shells
-- what a run says and does: its tables one after the other
pub mod Runs
-- what a repair of one table comes to
pub mod Recovers
-- what serves private contracts

-- what cuts a run off
pub mod Stops
-- how words are read, one after the other
pub mod Reading
-- the same of the words of `shell`
pub mod ShellReading
-- the plan that the code makes of the words
pub mod Plans
-- what is found of a script and its tables, step by step
pub mod ShellSteps
