use Rattle.myi_state.specs.Changes.{insert, insert_at_end, delete, update, accepted}
use Rattle.myi_pair.specs.FirstRows.{key_numbers}
use Rattle.myi_pair.specs.KeyList.{pointer}
use Rattle.myi_rowtrees.proofs.RowLemmas.{each_put, each_taken, each_moved}
use Rattle.myi_rowtrees.proofs.MoveLemmas.{each_in_place}
use Rattle.myi_rowtrees.proofs.laws.lists_follow_rows.Goals as goal

pub returns : goal.returns
returns c =
    let f = c.key_lists_follow.ensures in
    let o = c.keys_totally_ordered.ensures in
    record {
      inserted = λ d s values sound i. each_put d values (pointer d (accepted d s (insert values)).at) s.rows (accepted d s (insert values)).state.rows (key_numbers d) (λ k. f.inserted d s k values sound i);
      appended = λ d s values sound i. each_put d values (pointer d (accepted d s (insert_at_end values)).at) s.rows (accepted d s (insert_at_end values)).state.rows (key_numbers d) (λ k. f.appended d s k values sound i);
      deleted = λ d s at r sound i found. each_taken d r.values (pointer d r.at) s.rows (accepted d s (delete at)).state.rows (key_numbers d) (λ k. f.deleted d s k at r sound i found);
      updated = λ d s at values r sound i found. each_moved d values r.values (pointer d at) (pointer d r.at) s.rows (accepted d s (update at values)).state.rows (key_numbers d) (λ k. f.updated d s k at values r sound i found);
      moved = λ d s at values r sound i found. each_in_place d values r.values (pointer d at) (pointer d r.at) s.rows (accepted d s (update at values)).state.rows (key_numbers d) (λ a b e. (o.equal a b).0 e)
          (record { apart = λ k. f.updated d s k at values r sound i found; alike = λ k same. f.same d s k at values r sound i found same });
    }
