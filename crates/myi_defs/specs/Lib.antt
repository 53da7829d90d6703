-- what a reader of the contracts must believe

-- words on kinds of fields and types of key segments
pub mod Kinds
-- what the form of a header fixes, and where its parts stand
pub mod Layout
-- what stands where in a header
pub mod Header
-- on what a table is refused
pub mod Conditions
-- read definitions: what a header says of its table, or why the table is refused
pub mod ReadDefs
-- what the definitions of each table keep that is not refused
pub mod Sound
-- data files within reach of row pointers
pub mod Addressable
-- on which bytes of an index file definitions rest
pub mod Elsewhere
-- the header of an empty table
pub mod EmptyTable
