-- What the crates above cite: the laws of src/laws.rt as lemmas, and how facts of the parts of a call make one of the call.
-- The latter hold of any fact and any answer, which no clause can say.

-- names_of_files_are_apart
pub use Rattle.myi_repair.proofs.FilesLaws.{apart_of}
-- completed_tables_are_repaired
pub use Rattle.myi_repair.proofs.RepairLaws.{repaired, kept_both, kept_or_whole}
-- two facts of one step, and of what an Ok holds
pub use Rattle.myi_repair.proofs.FilesLaws.{told_and, both_ok, told_from}
-- rows that are all written
pub use Rattle.myi_repair.proofs.PointerLaws.{chosen_all}
pub use Rattle.myi_repair.proofs.StoredLaws.{all_parts, all_more, laid_more}
pub use Rattle.myi_repair.proofs.PointerLaws.{pointer_up}
pub use Rattle.myi_repair.proofs.KeepLaws.{read_back, short_enough}
-- how a call ends
pub use Rattle.myi_repair.proofs.EndLaws.{cut_off_ends, cut_off_later, cleared_ends, ends_again}
-- the table that was opened, the rows of its scan, and files that stay
pub use Rattle.myi_repair.proofs.OpenLaws.{IsOpened, is_opened}
pub use Rattle.myi_repair.proofs.GatherLaws.{same_name, sized_same, same_then, stays_known, begins_known, still_known, came_all, rows_storable}
pub use Rattle.myi_repair.proofs.FilesLaws.{both_new_rows, both_after, whole_before}
