-- What the crates above may cite. Each lemma states a clause of a law in src/laws.rt; `all_kept`, `classes_keep`,
-- `columns_keep` and `kept_listed` do so for rows of any type.

-- pairs_are_sorted
pub use Rattle.myi_keylist.proofs.SortedLaws.{pair_total, sorted_permutes, sorted_sorted, sorted_is}
-- equal_keys_stand_together
pub use Rattle.myi_keylist.proofs.TogetherLaws.{stand_together}
-- repeats_are_neighbours
pub use Rattle.myi_keylist.proofs.RepeatLaws.{apart}
-- distinct_rows_are_kept
pub use Rattle.myi_keylist.proofs.FirstLaws.{all_kept}
-- class_numbers_decide
pub use Rattle.myi_keylist.proofs.ClassLaws.{classes_keep}
-- rising_pointers_keep_order
pub use Rattle.myi_keylist.proofs.PointerLaws.{pointers_sorted}
-- kept_pointers_keep_order
pub use Rattle.myi_keylist.proofs.PointerLaws.{sorted_filtered, kept_sorted}
-- kept_rows_are_listed
pub use Rattle.myi_keylist.proofs.KeptLaws.{kept_listed}
-- columns_are_classes
pub use Rattle.myi_keylist.proofs.ColumnLaws.{columns_share}
-- columns_go_on
pub use Rattle.myi_keylist.proofs.ColumnLaws.{columns_more}
-- columns_keep_first_rows
pub use Rattle.myi_keylist.proofs.ColumnLaws.{columns_below, columns_keep}
