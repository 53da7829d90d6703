-- What the crates above may cite. Each lemma states a clause of a law in src/laws.rt but for those at the end, which hold for
-- any fact of a pair, or measure a definition, and can be no clause.

-- number_lists_go_on
pub use Rattle.myi_rowkeys.proofs.NumberLemmas.{no_numbers, numbers_next}
-- sorted_lists_are_number_lists
pub use Rattle.myi_rowkeys.proofs.ListLemmas.{sorted_numbers}
-- rows_without_repeats_are_kept
pub use Rattle.myi_rowkeys.proofs.ListLemmas.{none_repeats}
-- number_lists_become_pointer_lists
pub use Rattle.myi_rowkeys.proofs.PointerLemmas.{all_pointed, kept_pointed}
-- lists by their numbers
pub use Rattle.myi_rowkeys.proofs.NumberLemmas.{mapped_at, length-numbers, length-number_pairs, all_in_range}
pub use Rattle.myi_rowkeys.proofs.ListLemmas.{length-sorted_unique}
pub use Rattle.myi_rowkeys.proofs.PointerLemmas.{lists_permuted}
