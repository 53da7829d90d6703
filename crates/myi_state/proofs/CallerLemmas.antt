-- What the crates above cite. Each lemma states a clause of the law of its group in src/laws.rt.

-- changes_keep_states
pub use Rattle.myi_state.proofs.StateLemmas.{empty-state, accepted-kept, step-kept}
-- new_rows_have_free_places
pub use Rattle.myi_state.proofs.KeptLemmas.{next-free-at, end-free-at}
-- changes_keep_other_rows
pub use Rattle.myi_state.proofs.KeptLemmas.{others-stay, inserted-there, appended-there, updated-there, deleted-gone, update-place}
-- refusals_leave_states
pub use Rattle.myi_state.proofs.KeptLemmas.{refusal-leaves, row-refused, room-refused, none-refused}
-- histories_are_replayed
pub use Rattle.myi_state.proofs.KeptLemmas.{history-replayed}
-- These serve proofs about files: what the areas of a state are.
pub use Rattle.myi_state.proofs.RowLemmas.{below-both, below-rising, put-all, without-all, found-is}
pub use Rattle.myi_state.proofs.KeptLemmas.{others-tile, slot-some}
pub use Rattle.myi_state.proofs.TakenLemmas.{in-order-all, order-back}
pub use Rattle.myi_state.proofs.CellLemmas.{apart-across}
pub use Rattle.myi_state.proofs.ReadLemmas.{state-bytes}
pub use Rattle.myi_state.proofs.ShownLemmas.{static-begins}
pub use Rattle.myi_state.proofs.TakenLemmas.{TakesSpace, IsAligned, next-takes, behind-takes, none-own}
pub use Rattle.myi_state.proofs.KeptLemmas.{state-aligned}
pub use Rattle.myi_state.proofs.CellLemmas.{ranges-apart, free-of-none}
pub use Rattle.myi_state.proofs.StandingLemmas.{chain-ranges}
-- These serve proofs about numbers.
pub use Rattle.myi_state.proofs.CountLemmas.{same-counts, put-rows, put-areas, gone-rows, gone-areas, areas-few, bytes-inside, halves-of, AreFew, state-few}
