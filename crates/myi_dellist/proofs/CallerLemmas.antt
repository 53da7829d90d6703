-- What the crates above cite. Each lemma states a clause of the law of its group in src/laws.rt.

-- tiling_is_counting
pub use Rattle.myi_dellist.proofs.AreaLemmas.{covered-tile, tile-apart, tile-inside, tile-holds}
-- tiling_is_following
pub use Rattle.myi_dellist.proofs.OrderLemmas.{tiles-follow, follow-tiles}
-- released_areas_are_deleted
pub use Rattle.myi_dellist.proofs.ReleaseLemmas.{below-release, holes-release_all}
pub use Rattle.myi_dellist.proofs.PlaceLemmas.{release-tile}
-- placed_rows_tile
pub use Rattle.myi_dellist.proofs.UpdateLemmas.{update-counts, update-grows, update-tile, update-holes}
-- rows_have_their_places
pub use Rattle.myi_dellist.proofs.FirstLemmas.{update-place, place-new}
-- appended_rows_tile
pub use Rattle.myi_dellist.proofs.AppendedLemmas.{end-counts, end-grows, end-tile, end-place}
-- placed_blocks_can_be_released
pub use Rattle.myi_dellist.proofs.AppendedLemmas.{update-freeable, end-freeable}
-- placed_rows_are_chains
pub use Rattle.myi_dellist.proofs.RowLemmas.{update-holds, end-holds}
-- put_rows_leave_the_rest
pub use Rattle.myi_dellist.proofs.StandLemmas.{block-apart}
-- rows_find_their_list
pub use Rattle.myi_dellist.proofs.SoundLemmas.{never-bad}
pub use Rattle.myi_dellist.proofs.PutRowLemmas.{long-placed}
-- standing_rows_are_found
pub use Rattle.myi_dellist.proofs.FreedRowLemmas.{freed-sound}
pub use Rattle.myi_dellist.proofs.RewriteLemmas.{rewrite-sound, rewrite-long}
