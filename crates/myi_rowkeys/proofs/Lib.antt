pub mod CallerLemmas
pub mod NumberLemmas
pub mod ListLemmas
pub mod PointerLemmas
pub mod ColumnLemmas
