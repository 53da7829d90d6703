-- What a reader of the contracts has to believe.

-- the object, when it stands for a table, and what its calls do
pub mod KeyedRows
-- the object when it is opened on the two files of a table, and the files when they are closed
pub mod Files
-- how the refusals of the calls on the two files are told
pub mod Faults
-- why a change is refused, over any files
pub mod Refusals
-- What serves private contracts.

-- a row that is tested in the unique keys
pub mod Checking
