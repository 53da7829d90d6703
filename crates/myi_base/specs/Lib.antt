-- what a reader of the contracts must believe

-- numbers in bytes, pointers, lists of bytes
pub mod Numbers
-- numbers of given widths one after the other
pub mod Items
-- blanks at the end of a text
pub mod Blanks
-- ranges of bytes
pub mod Ranges
-- what files hold, and what one call does to it
pub mod Holding
-- what one write does to an output
pub mod Output
-- when a fault may be told
pub mod Causes
-- how an error is told by the layer above
pub mod HandsOn
