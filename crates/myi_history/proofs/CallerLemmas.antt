-- What the crates above may cite. Each lemma states a clause of a law in src/laws.rt.

-- scripts_may_run
pub use Rattle.myi_history.proofs.LineLemmas.{steps_run}
pub use Rattle.myi_history.proofs.GrammarLemmas.{lines_run}
-- ranges_find_matching_rows
pub use Rattle.myi_history.proofs.ReadLemmas.{are_matching, matching_once}
-- ranges_find_merged_rows
pub use Rattle.myi_history.proofs.MergedLemmas.{merged_once}
-- histories_are_replayed
pub use Rattle.myi_history.proofs.ReplayLemmas.{replay_append, replay_changes, replay_round}
-- appended_rows_stand_behind
pub use Rattle.myi_history.proofs.AppendLemmas.{appends_stand_behind}
-- refused_changes_leave
pub use Rattle.myi_history.proofs.ReplayLemmas.{not_made, stays}
-- rounds_follow_the_history
pub use Rattle.myi_history.proofs.ReplayLemmas.{follows_history}
-- rounds_are_whole
pub use Rattle.myi_history.proofs.ReplayLemmas.{none_left, replay_all}
-- numbers_can_be_given
pub use Rattle.myi_history.proofs.NumberLemmas.{counted_fit, in_turn_fits}
-- numbers_are_forced
pub use Rattle.myi_history.proofs.ForcedLemmas.{forced_once, one_session}
-- runs_begin
pub use Rattle.myi_history.proofs.RunLemmas.{has_begun}
-- rounds_go_on_in_turn
pub use Rattle.myi_history.proofs.PastLemmas.{next_in_turn}
-- rounds_go_on_side_by_side
pub use Rattle.myi_history.proofs.SideLemmas.{side_by_side}
-- runs_go_on
pub use Rattle.myi_history.proofs.RunLemmas.{goes_on, locks_more, table_more, number_more, taken_more, counted_more, text_more}
-- runs_end
pub use Rattle.myi_history.proofs.RunLemmas.{ends_within, ends_text, ends_table}
-- runs_that_stop
pub use Rattle.myi_history.proofs.RunLemmas.{stops}
-- tables_are_read
pub use Rattle.myi_history.proofs.RunLemmas.{read_now}
pub use Rattle.myi_history.proofs.FoundLemmas.{finds_before}
pub use Rattle.myi_history.proofs.SeenLemmas.{run_state, run_appends, seen_rows, seen_same}
-- texts_stand_in_line_order
pub use Rattle.myi_history.proofs.LineOrderLemmas.{texts_in_order}
-- lines_are_answered_once
pub use Rattle.myi_history.proofs.OnceLemmas.{answered_once}
-- texts_come_in_any_order
pub use Rattle.myi_history.proofs.LineOrderLemmas.{texts_own, texts_order}
-- sessions_go_beside_inserts
pub use Rattle.myi_history.proofs.BesideLemmas.{rows_inserted, table_between}
pub use Rattle.myi_history.proofs.SeenLemmas.{seen_within}
