-- what a reader of the contracts must believe

-- what files hold with gathered writes done
pub mod Pending
pub mod Gathering
-- what an object that gathers writes shows
pub mod GatheringFiles
-- what two readers tell together
pub mod TwoReaders
