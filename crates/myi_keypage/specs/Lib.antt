-- what a reader of the contracts must believe

-- pages, and the one spelling of each
pub mod Page
-- how many bytes entries take
pub mod Fitting
-- the page that bytes are
pub mod Views
-- what a writer leaves
pub mod Writing
-- a page whose children stand further on
pub mod Shifting
-- a leaf with an entry put in
pub mod PuttingIn
-- a page with other children
pub mod Children
-- what serves private contracts

-- items read from left to right
pub mod PageItems
