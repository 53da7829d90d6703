mod OpenLemmas
mod PartLemmas
mod TakeLemmas
mod CloseLemmas
mod KeepLemmas
