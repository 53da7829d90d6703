pub mod CallerLemmas
mod FirstLemmas
mod CaseLemmas
mod HoldLemmas
mod EndLemmas
mod OpeningLemmas
mod ExclusionLemmas
mod TogetherLemmas
mod HeldLemmas
mod SingleLemmas
mod PlacingLemmas
