-- what a reader of the contracts must believe

-- the order of pairs, and the list that is in it
pub mod PairOrder
-- keys that repeat
pub mod Repeats
-- which rows are kept
pub mod FirstBy
-- which rows are kept, by class numbers
pub mod Classes
-- class numbers key by key, and rows that become row pointers
pub mod Columns
-- pairs as entries of a page
pub mod PairEntries
-- what serves private contracts

-- where codes and marks of a list stand
pub mod PairLists
