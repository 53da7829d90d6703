pub mod CallerLemmas
pub mod LeftLemmas
pub mod RowLemmas
pub mod TreeLemmas
pub mod MatchLemmas
pub mod CostLemmas
pub mod AnswerLemmas
