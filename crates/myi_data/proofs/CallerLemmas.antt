-- What the crates above cite. Each lemma states a clause of the law of its group in src/laws.rt.

-- rows_are_readable
pub use Rattle.myi_data.proofs.RowsLemmas.{rows_apart}
-- stored_files_are_read
pub use Rattle.myi_data.proofs.StoredLemmas.{stored_read}
-- giant_rows_stand
pub use Rattle.myi_data.proofs.ShareLemmas.{group_again, stored_again, shares_less, end_writable, end_short, room_short}
pub use Rattle.myi_data.proofs.StandLemmas.{stored_long, stored_some}
-- rows_stand_alone
pub use Rattle.myi_data.proofs.AloneLemmas.{size_alone, bytes_alone, group_alone, stored_alone}
-- rows_have_keys
pub use Rattle.myi_data.proofs.KeyLemmas.{can_weigh, key_is, key_is_at, segments_at, values_fit}
pub use Rattle.myi_data.proofs.SpellingLemmas.{spelling_some}
-- scans_begin_with_all
pub use Rattle.myi_data.proofs.FreshScans.{fresh_ahead, fresh_known, ahead_ended, ahead_same, known_same, after_known}
-- This goes by the cases of a slot for any fact, which no clause can say.
pub use Rattle.myi_data.proofs.RowsLemmas.{slot_cases}
