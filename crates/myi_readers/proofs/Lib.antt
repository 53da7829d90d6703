pub mod ScanLemmas
pub mod SeenLemmas
pub mod RangeLemmas
pub mod MatchLemmas
pub mod ReaderLemmas
pub mod BaseLemmas
pub mod KnownLaws
pub mod IndexLemmas
