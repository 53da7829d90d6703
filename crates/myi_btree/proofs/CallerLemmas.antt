-- What the crates above cite. Each lemma states a clause of the law of its group in src/laws.rt.

-- walks_exist_once
pub use Rattle.myi_btree.proofs.Once.{one_walk}
-- laid_pages_walk
pub use Rattle.myi_btree.proofs.LaidWalks.{laid_walks}
-- laid_pages_are_met_once
pub use Rattle.myi_btree.proofs.LaidRanges.{walks_once}
pub use Rattle.myi_btree.proofs.BuildClear.{root_some}
-- pages_are_nodes, trees_are_shallow
pub use Rattle.myi_btree.proofs.NodeShape.{node_shape}
pub use Rattle.myi_btree.proofs.Shallow.{depth_bound}
-- index_pages_are_nodes
pub use Rattle.myi_btree.proofs.NodesAt.{at_shape}
-- levels_are_laid
pub use Rattle.myi_btree.proofs.LaidRead.{good_count}
pub use Rattle.myi_btree.proofs.LaidWalks.{count_pos, level_lt, length-places_from}
pub use Rattle.myi_btree.proofs.LevelsLaws.{level_count, multiple}
pub use Rattle.myi_btree.proofs.PutLaws.{ends}
-- laid_pages_move, laid_pages_are_movable
pub use Rattle.myi_btree.proofs.LaidMoves.{laid_moves}
pub use Rattle.myi_btree.proofs.MoveLaws.{laid_movable, laid_moved, laid_stored}
-- laid_pages_are_written
pub use Rattle.myi_btree.proofs.LaidRead.{laid_written, written_read}
-- laid_pages_stand_behind
pub use Rattle.myi_btree.proofs.FilePages.{page_long, pages_long, tree_long, over_behind, tree_behind}
-- trees_have_few_pages
pub use Rattle.myi_btree.proofs.FewPages.{laid_few}
-- events_are_walks
pub use Rattle.myi_btree.proofs.EventLaws.{meets_once}
pub use Rattle.myi_btree.proofs.EventWalks.{meets_walk, walk_meets, MeetsWalk}
-- trees_have_events
pub use Rattle.myi_btree.proofs.DepthLaws.{events_met, tree_met}
-- disjoint ranges
pub use Rattle.myi_btree.proofs.FewBytes.{filled, few_bytes}
-- These hold of any fact or any function, which no clause can say.
pub use Rattle.myi_btree.proofs.Frames.{bind_some}
