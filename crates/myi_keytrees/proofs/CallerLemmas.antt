-- What the crates above cite. Each lemma states a clause of the law of its group in src/laws.rt.

-- written_trees_stand_in_the_file
pub use Rattle.myi_keytrees.proofs.FileLaws.{stand_in}
-- opened_trees_stand
pub use Rattle.myi_keytrees.proofs.OpenLaws.{opened, none_in_front}
-- bytes_are_counted
pub use Rattle.myi_keytrees.proofs.CountLaws.{counted, few}
-- calls_follow
pub use Rattle.myi_keytrees.proofs.FlushLaws.{stand_start, stand_follow, stand_search}
-- other_files_may_change
pub use Rattle.myi_keytrees.proofs.FlushLaws.{stand_elsewhere}
-- walks_stay_between
pub use Rattle.myi_keytrees.proofs.OtherFile.{walks_stay, cut_keeps}
