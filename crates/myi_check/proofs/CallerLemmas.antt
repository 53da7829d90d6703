-- What the crates above cite.

-- what the header says that definitions were read from is what the index file's says
pub use Rattle.myi_check.proofs.StoredLemmas.{state_is, as_many_roots}
-- These hold of what any walk of a tree notes, which no clause can say.
pub use Rattle.myi_check.proofs.WalkLaws.{any_place, may_begin, goes_first, goes_on, goes_over, tree_meets, file_meets, root_there, none_met, none_written}
