-- what a reader of the contracts must believe

-- what a map from names to bytes holds
pub mod Stored
-- which calls of an object in memory fail
pub mod Failures
pub mod FailingOf
-- what files in memory, their readers, and a sink in memory show
pub mod MemFiles
pub mod MemReader
pub mod MemSink
