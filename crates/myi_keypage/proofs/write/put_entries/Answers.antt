use Rattle.std.proofs.Common.{◌≡◌, ◌+◌, ◌++◌, ◌<◌, ℕ, List, [], length, take, drop, get_or, arith}
use Rattle.myi_keypage.specs.Page.{entry_with, entries_bytes, entry_bytes, child_bytes}
use Rattle.myi_keypage.specs.declared.entry.Entry.{Entry}
use Rattle.myi_keypage.proofs.WriteLaws.{entry_at, row_at, first_le, few_left, child_le, puts_on, Puts-then, node_step, leaf_step}
use Rattle.myi_keypage.proofs.write.put_entries.Goals as goal
use Rattle.myi_keypage.proofs.write.put_entries.Goals.{then-i-children, else-i-children}

pub put_entry-at-requires-clause-few : goal.put_entry-at-requires-clause-few
put_entry-at-requires-clause-few g c =
    omega (arith, first_le c.args.rec_ref c.loop-i.before.now (g.L.EntryList.entries c.args.entries.now) c.args.children.now c.loop-i.i (entry_with c.code-key.result.now c.row.result) (omega arith) (entry_at (g.L.EntryList.entries c.args.entries.now) c.loop-i.i c.code-key.result.now c.row.result c.code-key.ensures c.row.ensures), c.loop-i.invariant.few)

pub put_entry-at-requires-clause-room : goal.put_entry-at-requires-clause-room
put_entry-at-requires-clause-room g c =
    omega (arith, first_le c.args.rec_ref c.loop-i.before.now (g.L.EntryList.entries c.args.entries.now) c.args.children.now c.loop-i.i (entry_with c.code-key.result.now c.row.result) (omega arith) (entry_at (g.L.EntryList.entries c.args.entries.now) c.loop-i.i c.code-key.result.now c.row.result c.code-key.ensures c.row.ensures))

pub put_child-at-requires : goal.put_child-at-requires
put_child-at-requires g c =
    omega (arith, child_le c.args.rec_ref c.loop-i.before.now (g.L.EntryList.entries c.args.entries.now) c.args.children.now c.loop-i.i (entry_with c.code-key.result.now c.row.result) (omega arith) (entry_at (g.L.EntryList.entries c.args.entries.now) c.loop-i.i c.code-key.result.now c.row.result c.code-key.ensures c.row.ensures) c.if-i-children.true, c.put_entry-at.ensures.ends)

pub loop-i-preserved : goal.loop-i-preserved
loop-i-preserved g c =
    let rec_ref : ℕ = c.args.rec_ref in
    let before : List ℕ = c.loop-i.before.now in
    let es : List Entry = (g.L.EntryList.entries c.args.entries.now) in
    let cs : List ℕ = c.args.children.now in
    let i : ℕ = c.loop-i.i in
    let e : Entry = entry_with c.code-key.result.now c.row.result in
    let lt : c.loop-i.i < length es = omega arith in
    let is : e ≡ get_or es i e = entry_at es i c.code-key.result.now c.row.result c.code-key.ensures c.row.ensures in
    let few = few_left rec_ref before es cs i e lt is c.loop-i.invariant.few in
    let more : List ℕ = entries_bytes rec_ref e.key (drop (i + 1) es) (drop (i + 1) cs) in
    let step : (take c.if-i-children.at c.if-i-children.into ++ more ≡ take c.args.at c.args.into.now ++ entries_bytes rec_ref [] es cs) × (c.if-i-children.at + length more ≡ c.args.at + length (entries_bytes rec_ref [] es cs)) =
    elim c.if-i-children.branch [
      | then-i-children w ↦
          rw (w.into-is, w.at-is) (puts_on c.loop-i.into c.loop-i.at w.put_child-at.new.into w.put_child-at.result (entry_bytes rec_ref before e ++ child_bytes (get_or cs i 0)) _ more _ _
          (Puts-then _ _ _ _ _ _ _ _ c.put_entry-at.ensures w.put_child-at.ensures) (node_step rec_ref before es cs i e lt is w.if-i-children.true) c.loop-i.invariant.text c.loop-i.invariant.ends)
      | else-i-children w ↦
          rw (w.into-is, w.at-is) (puts_on c.loop-i.into c.loop-i.at c.put_entry-at.new.into c.put_entry-at.result (entry_bytes rec_ref before e) _ more _ _
          c.put_entry-at.ensures (leaf_step rec_ref before es cs i e lt is w.if-i-children.false) c.loop-i.invariant.text c.loop-i.invariant.ends)
    ] in
    record { text = step.0; ends = step.1; few = few; len = omega arith }

pub put_entry-at-requires-clause-row : goal.put_entry-at-requires-clause-row
put_entry-at-requires-clause-row g c = row_at (g.L.EntryList.entries c.args.entries.now) c.args.rec_ref c.loop-i.i c.row.result (omega arith) c.row.ensures c.requires.rows
