-- what a reader of the contracts must believe

-- walks of trees over a reading from places to nodes
pub mod Walk
-- the pages that building puts
pub mod LaidPages
-- the walk of laid pages
pub mod LaidOnce
-- nodes and pages
pub mod Nodes
-- pairs that can be laid on pages, and how many a page takes
pub mod Sizes
-- the faults of a tree
pub mod Faults
-- the bytes of the pages of a tree, and where they stand in a file
pub mod TreePages
-- what building does to a cache and the files
pub mod Building
-- the pages that a walk goes into
pub mod Visit
-- what a walk meets, one after the other
pub mod Events
-- a walk where trees before have pages
pub mod Used
-- the events of a tree, as a list
pub mod TreeEvents
-- trees in what a key cache lends
pub mod CachedTrees
-- what a walk still meets, by the pages that it has open
pub mod Going
-- a walk that is under way
pub mod Walking
-- what a cache goes on lending
pub mod Serving
-- pages that a walk went into
pub mod Visited
-- pages that are moved
pub mod Moving
-- what serves private contracts

-- what a put of a page does to a key cache
pub mod CachePuts
-- what a level is laid of, and what it leaves
pub mod Levels
-- a tree that is laid page by page
pub mod Laying
-- the code of a walk that is under way
pub mod Cursors
