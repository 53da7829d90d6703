-- what a reader of the contracts must believe

-- parts of a list of bytes
pub mod Parts
-- where the state stands in a header
pub mod Layout
-- the state and the mark of a header
pub mod StateOf
-- the header that a state is written into
pub mod HeaderOf
-- the state of a table without rows
pub mod EmptyState
-- what an index file says of the last analysis
pub mod Analysis
