pub mod DealLaws
pub mod DealingLaws
pub mod ShareLaws
pub mod SortLaws
pub mod TableLaws
