mod KeptLemmas
pub mod RuleLaws
pub mod RunLaws
pub mod StepLemmas
pub mod RowLemmas
pub mod RowLaws
pub mod CallerLemmas
