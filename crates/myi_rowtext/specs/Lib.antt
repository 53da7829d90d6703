-- what a reader of the contracts must believe

-- the text of a row
pub mod RowText
