-- what a reader of the contracts must believe

-- the words of creating texts
pub mod Text
-- the grammar of creating texts
pub mod Grammar
-- the header that a creating text stands for
pub mod TextHeader
-- the header that a table stands for
pub mod TableHeader
-- what a creating text stands for, or why for nothing
pub mod ParseText
