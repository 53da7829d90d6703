-- What the crates above cite. Each lemma states a clause of the law of its group in src/laws.rt.

-- first_rows_are_distinct
pub use Rattle.myi_pair.proofs.FirstRowsLaws.{first_by_keys}
-- kept_rows_make_a_table
pub use Rattle.myi_pair.proofs.KeptLaws.{readable_storable}
-- pairs_are_sized
pub use Rattle.myi_pair.proofs.SizedLaws.{placed, is_key, laid_short}
-- recovered_bytes_recover
pub use Rattle.myi_pair.proofs.RecoveredLaws.{recovered}
-- findings_are_none_where_clean
pub use Rattle.myi_pair.proofs.FoundLaws.{none_where_clean, clean_where_none, none_recovered}
-- written_parts_are_measured
pub use Rattle.myi_pair.proofs.ShorterLaws.{length-slot}
pub use Rattle.myi_pair.proofs.SizedLaws.{pointer_near}
pub use Rattle.myi_pair.proofs.HeaderLaws.{new_rest}
-- empty_tables_are_clean
pub use Rattle.myi_pair.proofs.EmptyTableLaws.{empty_is_clean, empty_none}
-- pages that lie one behind the other
pub use Rattle.myi_pair.proofs.PageRanges.{IsBetween, EndBy, total_pages, end_later, end_append, between_free, between_end}
-- the same definitions with another header, and what they say of the same bytes
pub use Rattle.myi_pair.proofs.RebuiltLaws.{IsLike, front_number, layout_same, first_same, state_same, header_like}
pub use Rattle.myi_pair.proofs.SecondLaws.{kept_same, laid_same}
pub use Rattle.myi_pair.proofs.SameDefs.{with_raw, readable_same, list_same, deleted_same, values_same, placed_same, addressable_same, distinct_same, walks_same, lists_same, pages_same}
