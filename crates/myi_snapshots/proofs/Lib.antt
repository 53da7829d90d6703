pub mod CallerLemmas
pub mod AppendLemmas
pub mod SeenLemmas
pub mod KnownLemmas
pub mod SizeLemmas
pub mod CountLemmas
