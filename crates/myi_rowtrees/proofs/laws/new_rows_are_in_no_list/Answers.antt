use Rattle.myi_state.specs.Changes.{insert, insert_at_end, delete, accepted}
use Rattle.myi_pair.specs.FirstRows.{key_numbers}
use Rattle.myi_pair.specs.KeyList.{pointer}
use Rattle.myi_rowtrees.specs.RowLists.{lists_of, row_pairs, take_each}
use Rattle.myi_rowtrees.proofs.LackLemmas.{new_lacks, gone_lacks}
use Rattle.myi_rowtrees.proofs.RowLemmas.{each_taken}
use Rattle.myi_rowtrees.proofs.laws.new_rows_are_in_no_list.Goals as goal

pub returns : goal.returns
returns c =
    let states = c.changes_keep_states.ensures in
    let rows = c.changes_keep_other_rows.ensures in
    let back = c.key_lists_are_in_order.ensures.pointed in
    record {
      inserted = λ d s values sound may i. new_lacks d s (insert values) values (c.new_rows_have_free_places.ensures.next d s values sound i) (rows.inserted d s values sound i) (back d s sound i) (back d (accepted d s (insert values)).state sound (states.accepted d s (insert values) sound may i));
      appended = λ d s values sound may i. new_lacks d s (insert_at_end values) values (c.new_rows_have_free_places.ensures.end d s values sound i) (rows.appended d s values sound i) (back d s sound i) (back d (accepted d s (insert_at_end values)).state sound (states.accepted d s (insert_at_end values) sound may i));
      updated = λ d s at values r sound i found.
          let gone = (accepted d s (delete at)).state in
          gone_lacks d s.rows gone.rows (take_each (row_pairs d r.values (pointer d r.at)) (lists_of d s.rows)) at values r found (back d s sound i) (rows.deleted d s at i) (back d gone sound (states.accepted d s (delete at) sound tt i))
          (each_taken d r.values (pointer d r.at) s.rows gone.rows (key_numbers d) (λ k. c.key_lists_follow.ensures.deleted d s k at r sound i found));
    }
