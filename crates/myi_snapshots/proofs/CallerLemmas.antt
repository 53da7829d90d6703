-- What the crates above cite. Each lemma states a clause of the law of its group in src/laws.rt.

-- appended_rows_stand_behind
pub use Rattle.myi_snapshots.proofs.AppendLemmas.{one_more, last, kept, same_holes, ends, grows}
-- snapshots_are_seen
pub use Rattle.myi_snapshots.proofs.SeenLemmas.{by_number, by_earlier}
-- known_rows_are_first
pub use Rattle.myi_snapshots.proofs.KnownLemmas.{read, values, first, few}
