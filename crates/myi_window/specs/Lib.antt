-- what a reader of the contracts must believe

-- what is known of a file in part
pub mod Excerpt
