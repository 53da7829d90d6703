pub mod GroupLemmas
pub mod SearchLemmas
