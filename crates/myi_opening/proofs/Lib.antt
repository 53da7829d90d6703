pub mod OpenLaws
pub mod CallerLemmas
