pub mod CallerLemmas
pub mod RowLaws
pub mod PieceLemmas
pub mod WordLemmas
