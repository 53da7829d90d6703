pub mod PlaceLemmas
pub mod ItemLemmas
pub mod CountLemmas
pub mod FitLemmas
pub mod HeaderLemmas
pub mod SaidLaws
pub mod OnceLaws
