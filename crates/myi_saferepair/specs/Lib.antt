-- what a reader of the contracts must believe

-- what a repair leaves where the pages of the trees may stand anywhere
pub mod Recovered
-- what such a repair does to the files of a table
pub mod Repaired
-- what serves private contracts

-- why new files are not made row by row
pub mod Stops
-- whether a row's key is that of a pair in the trees
pub mod Held
-- the rows and the trees that were made so far
pub mod Filling
