-- what the crates above cite
pub mod CallerLemmas
-- excerpts that move and grow
pub mod ExcerptLemmas
