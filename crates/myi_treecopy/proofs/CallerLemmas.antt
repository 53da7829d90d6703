-- What the crates above cite: walks by their pages, and bytes and pages that stay where a file is written before or behind them. These
-- hold of any reading and any bytes, which no clause can say.

-- walks of several places and of one page
pub use Rattle.myi_treecopy.proofs.TurnLaws.{Frame, pairs_agree, some_node, of_node, of_leaf, leaf_walk}
-- what stands from a place on, where more was written behind it
pub use Rattle.myi_treecopy.proofs.BytesLaws.{dropped_more}
-- pages that stay, and how long a file is that is written
pub use Rattle.myi_treecopy.proofs.FileLaws.{places_kept, places_behind, written_long}
