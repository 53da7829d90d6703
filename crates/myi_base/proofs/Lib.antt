pub mod CallerLemmas
pub mod NumberLaws
pub mod BytesLaws
pub mod ItemLaws
pub mod ToldLemmas
mod BlankLaws
