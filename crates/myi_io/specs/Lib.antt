-- what a reader of the contracts must believe

-- counts of calls, reads and faults
pub mod Counts
-- what serves the laws of files and readers where these are implemented

-- what is told is bytes
pub mod Told
