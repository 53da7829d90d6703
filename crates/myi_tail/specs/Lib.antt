-- what a reader of the contracts must believe

-- the front of a list
pub mod Prefix
-- a row in words
pub mod Rows
-- the rows that words spell
pub mod Spelled
-- what contracts see of the appender and of the readers
pub mod Seats
-- the rule of a tail's table
pub mod Rule
-- the kinds of step
pub mod Steps
-- steps of any seats, in any order
pub mod Runs
-- what serves private contracts

-- what each step tells the seat that makes it
pub mod Plays
-- what is so of the fields of an appender and of a reader
pub mod Inside
