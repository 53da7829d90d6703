-- What a reader of the contracts has to believe.

-- the object on a data file, and what its calls do
pub mod SlotFile
-- what stands at a place, and what is written there
pub mod SlotBytes
