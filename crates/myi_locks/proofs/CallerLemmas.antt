-- What the crates above cite: the laws that proofs of theirs go through.
pub use Rattle.myi_locks.proofs.EndLemmas.{kept, fewer}
pub use Rattle.myi_locks.proofs.HoldLemmas.{finished, hold_steps}
pub use Rattle.myi_locks.proofs.OpeningLemmas.{opens, finishes, rounds_end}
pub use Rattle.myi_locks.proofs.ExclusionLemmas.{exclusive_opening, exclusive_kept, refused_alone}
pub use Rattle.myi_locks.proofs.TogetherLemmas.{one_writer, together_kinds, own_runs, concurrent_inserts}
pub use Rattle.myi_locks.proofs.SingleLemmas.{one_kind, still_one}
pub use Rattle.myi_locks.proofs.HeldLemmas.{held_by_steps, none_held}
