-- What the crates above cite. Each lemma states a clause of the law of its group in src/laws.rt.

-- blocks_stand
pub use Rattle.myi_frames.proofs.BlockLemmas.{block-stands, block-short, block-bytes, block-bounded}
pub use Rattle.myi_frames.proofs.SizeLemmas.{block-sized}
-- headers_are_bounded
pub use Rattle.myi_frames.proofs.HeadLemmas.{header-deleted, header-next, header-prev}
-- blocks_are_local
pub use Rattle.myi_frames.proofs.BlockLemmas.{block-own}
pub use Rattle.myi_frames.proofs.FileLemmas.{block-grown, block-elsewhere}
-- written_blocks_read_back
pub use Rattle.myi_frames.proofs.WriteLemmas.{length-block, length-block-naming, block-joined, block-overwritten, deleted-overwritten, length-deleted_head, bytes-deleted_head}
-- writes_leave_the_rest
pub use Rattle.myi_frames.proofs.FileLemmas.{length-overwritten, part-overwritten}
-- least_sizes_are_least
pub use Rattle.myi_frames.proofs.SizeLemmas.{least-writable, least-sized, least-least, least-together}
-- rooms_are_greatest
pub use Rattle.myi_frames.proofs.SizeLemmas.{start-writable, middle-writable, block-start, block-middle, block-start-few, block-middle-few}
