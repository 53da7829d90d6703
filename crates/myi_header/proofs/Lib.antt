pub mod CallerLemmas
pub mod RootLaws
pub mod PrintLaws
pub mod HeaderLaws
pub mod EmptyLaws
pub mod AnalysisLaws
