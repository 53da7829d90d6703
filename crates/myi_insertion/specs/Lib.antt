-- what a reader of the contracts must believe

-- trees side by side
pub mod Strips
-- the bytes of pages and of free room
pub mod Covers
-- taking pages out of a room
pub mod Rooms
-- what a change does to a key cache
pub mod CachedChanges
-- a tree in what a key cache lends, with a pair put in
pub mod CachedTree
-- taking a pair out of a list and a tree
pub mod Removal
-- how well pages are filled
pub mod Filled
-- where a change meets damage
pub mod Damage
-- what serves private contracts

-- where a pair goes
pub mod Ordered
-- where a pair goes on a page
pub mod Spots
-- pairs that are being written on pages
pub mod Settling
-- what can be written on pages
pub mod Written
-- what a cut leaves, and which pages are written
pub mod Halves
-- the steps of a change
pub mod Steps
-- trees of which a page is not written
pub mod Openings
