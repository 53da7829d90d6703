-- What the crates above cite.

-- the slot of a row of a static file that stands for a state
pub use Rattle.myi_slots.proofs.StandLemmas.{static-of}
pub use Rattle.myi_slots.proofs.FoundLemmas.{IsThere, row-there}
