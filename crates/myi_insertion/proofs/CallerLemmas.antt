-- What the crates above cite. Each lemma states a clause of the law of its group in src/laws.rt.

-- pairs_are_put_in
pub use Rattle.myi_insertion.proofs.OrderLaws.{put_sorted}
-- walks_still_stand
pub use Rattle.myi_insertion.proofs.FrameLaws.{same_walk}
-- cached_changes_follow
pub use Rattle.myi_insertion.proofs.CachedLaws.{exchange_can}
-- other_trees_stay
pub use Rattle.myi_insertion.proofs.CachedLaws.{other_stands, other_clear, same_reading}
-- ranges, by the bytes that they have
pub use Rattle.myi_insertion.proofs.CoverLaws.{within_one, ranges_apart, before_end}
-- walks, where all that was lent is lent
pub use Rattle.myi_insertion.proofs.PuttingLaws.{walk_stays}
