use Rattle.std.proofs.Common.{◌≡◌, Option, refl, sym, ap, subst, ◌∙◌}
use Rattle.std.proofs.lemmas.Result.{err_from_is_err_and}
use Rattle.myi_slots.specs.SlotFile.{SlotFile, Never}
use Rattle.myi_state.specs.Changes.{delete}
use Rattle.myi_keyedrows.specs.declared.keyed_rows.KeyedRows.{KeyedRows}
use Rattle.myi_keyedrows.specs.declared.fault.KeyedFault.{KeyedFault}
use Rattle.myi_keyedrows.specs.KeyedRows.{defs_of, Refuses, IfReply, StillHold}
use Rattle.myi_keyedrows.proofs.FaultLemmas.{if_err}
use Rattle.myi_keyedrows.proofs.HoldLemmas.{still_follow, kept_long}
use Rattle.myi_keyedrows.proofs.RowLemmas.{noted_holds}
use Rattle.myi_keyedrows.proofs.StepLemmas.{half_made, half_whole, half_never, refuses_data, refuses_tree, reply_data}
use Rattle.myi_keyedrows.proofs.AnswerLemmas.{Goes, goes_absent, goes_free, goes_follow, goes_never, has_as}
use Rattle.myi_keyedrows.proofs.LawLemmas.{counted_none, counted_back, StepLaws, laws_of, both_fit, read_fit, read_kept}
use Rattle.myi_base.specs.Holding.{Holding}
use Rattle.myi_rows.specs.Refusals.{FindsNone, LacksReach, FindsRowBad}
use Rattle.myi_keyedrows.specs.Refusals.{ByCause, FindsNoneAt}
use Rattle.myi_keyedrows.proofs.CauseLemmas.{tree_cause, data_cause, none_cause}
use Rattle.myi_keyedrows.proofs.keyed_rows.KeyedRows.delete.Goals as goal

pub returns-in_err-had-clause-refused : goal.returns-in_err-had-clause-refused
returns-in_err-had-clause-refused g c =
    let told = g.F.Files.holds c.args.files.now in
    let e = err_from_is_err_and c.from_residual.result c.from_residual.ensures.1 in
    if_err c.from_residual.result e.0 (Refuses (delete c.args.at) told c.args.self.now) e.1
    (subst (λ (f : KeyedFault). Refuses (delete c.args.at) told c.args.self.now f) (sym e.2)
    (goes_absent told c.args.self.now c.args.at c.in_err-had.field-0.0 c.keyed_refusals_come_in_order.ensures.row c.in_err-had.ensures.absent))

pub returns-in_err-had-clause-fit : goal.returns-in_err-had-clause-fit
returns-in_err-had-clause-fit g c =
    read_fit c.args.self.now c.pairs_at.new.self c.requires.fit c.in_err-had.ensures.file c.in_err-had.ensures.trees

pub delete_at-requires-clause-long : goal.delete_at-requires-clause-long
delete_at-requires-clause-long g c κs live =
    let told = g.F.Files.holds c.args.files.now in
    let then = g.F.Files.holds c.pairs_at.new.files in
    kept_long c.pairs_at.new.self then (read_kept told then c.args.self.now c.pairs_at.new.self c.requires.kept c.in_ok-had.ensures.still c.in_ok-had.ensures.holds)

pub returns-in_err-delete_at-clause-refused : goal.returns-in_err-delete_at-clause-refused
returns-in_err-delete_at-clause-refused g c =
    let told = g.F.Files.holds c.args.files.now in
    let then = g.F.Files.holds c.pairs_at.new.files in
    let old = c.args.self.now in
    let mid = c.pairs_at.new.self in
    let at = c.args.at in
    let fit = read_fit old mid c.requires.fit c.in_ok-had.ensures.file c.in_ok-had.ensures.trees in
    let steps : StepLaws = record { made = c.keyed_steps_are_steps.ensures.made; refused = c.keyed_steps_are_steps.ensures.refused; keep = c.keyed_changes_keep_tables.ensures.step } in
    let keyed = laws_of steps (defs_of mid) (delete at) fit.sound tt in
    let e = err_from_is_err_and c.from_residual-in_err-delete_at.result c.from_residual-in_err-delete_at.ensures.1 in
    if_err c.from_residual-in_err-delete_at.result e.0 (Refuses (delete at) told old) e.1
    (subst (λ (f : KeyedFault). Refuses (delete at) told old f) (sym e.2) (refuses_data (delete at) old mid told then c.in_err-delete_at.field-0.0 c.in_ok-had.ensures.file keyed c.in_ok-had.ensures.still (goes_free told old at) c.in_err-delete_at.ensures.refused))

pub returns-in_err-delete_at-clause-unchanged : goal.returns-in_err-delete_at-clause-unchanged
returns-in_err-delete_at-clause-unchanged g c =
    let told = g.F.Files.holds c.args.files.now in
    let then = g.F.Files.holds c.pairs_at.new.files in
    let old = c.args.self.now in
    let mid = c.pairs_at.new.self in
    let at = c.args.at in
    let fit = read_fit old mid c.requires.fit c.in_ok-had.ensures.file c.in_ok-had.ensures.trees in
    let next = g.F.Files.holds c.delete_at.new.files in
    let rows = c.delete_at.new.self in
    let new : KeyedRows = record { rows = rows; trees = mid.trees } in
    let e = err_from_is_err_and c.from_residual-in_err-delete_at.result c.from_residual-in_err-delete_at.ensures.1 in
    if_err c.from_residual-in_err-delete_at.result e.0 (λ f. IfReply f (StillHold told next old new)) e.1
    (subst (λ (f : KeyedFault). IfReply f (StillHold told next old new)) (sym e.2)
    (reply_data c.in_err-delete_at.field-0.0 (next ≡ then) (StillHold told next old new) c.in_err-delete_at.ensures.unchanged
    (λ held. still_follow old mid new told then next c.in_ok-had.ensures.still (noted_holds mid rows then next c.in_err-delete_at.ensures.same c.in_err-delete_at.ensures.kept held))))

pub returns-in_err-delete_at-clause-fit : goal.returns-in_err-delete_at-clause-fit
returns-in_err-delete_at-clause-fit g c =
    let told = g.F.Files.holds c.args.files.now in
    let then = g.F.Files.holds c.pairs_at.new.files in
    let old = c.args.self.now in
    let mid = c.pairs_at.new.self in
    let at = c.args.at in
    let fit = read_fit old mid c.requires.fit c.in_ok-had.ensures.file c.in_ok-had.ensures.trees in
    let next = g.F.Files.holds c.delete_at.new.files in
    let rows = c.delete_at.new.self in
    read_fit mid (record { rows = rows; trees = mid.trees }) fit c.in_err-delete_at.ensures.same refl

pub returns-in_err-take_row-clause-refused : goal.returns-in_err-take_row-clause-refused
returns-in_err-take_row-clause-refused g c =
    let told = g.F.Files.holds c.args.files.now in
    let then = g.F.Files.holds c.pairs_at.new.files in
    let old = c.args.self.now in
    let mid = c.pairs_at.new.self in
    let at = c.args.at in
    let fit = read_fit old mid c.requires.fit c.in_ok-had.ensures.file c.in_ok-had.ensures.trees in
    let next = g.F.Files.holds c.delete_at.new.files in
    let rows = c.delete_at.new.self in
    let half = half_made (delete at) old mid rows told then next at fit.apart c.in_ok-had.ensures.still c.in_ok-delete_at.ensures.ok c.in_ok-delete_at.ensures.others in
    let e = err_from_is_err_and c.from_residual-in_err-take_row.result c.from_residual-in_err-take_row.ensures.1 in
    if_err c.from_residual-in_err-take_row.result e.0 (Refuses (delete at) told old) e.1
    (subst (λ (f : KeyedFault). Refuses (delete at) told old f) (sym e.2)
    (refuses_tree (delete at) told old c.in_err-take_row.field-0.0 (λ q damaged. half_never (delete at) old mid rows told next at half (goes_never told next old mid at (c.in_err-take_row.ensures.never q damaged)))))

pub returns-in_err-take_row-clause-fit : goal.returns-in_err-take_row-clause-fit
returns-in_err-take_row-clause-fit g c =
    let told = g.F.Files.holds c.args.files.now in
    let then = g.F.Files.holds c.pairs_at.new.files in
    let old = c.args.self.now in
    let mid = c.pairs_at.new.self in
    let at = c.args.at in
    let fit = read_fit old mid c.requires.fit c.in_ok-had.ensures.file c.in_ok-had.ensures.trees in
    let next = g.F.Files.holds c.delete_at.new.files in
    let rows = c.delete_at.new.self in
    both_fit mid rows c.take_row.new.trees fit c.in_ok-delete_at.ensures.object c.in_err-take_row.ensures.name c.in_err-take_row.ensures.kinds c.in_err-take_row.ensures.whole

pub returns-clause-fit : goal.returns-clause-fit
returns-clause-fit g c =
    let told = g.F.Files.holds c.args.files.now in
    let then = g.F.Files.holds c.pairs_at.new.files in
    let old = c.args.self.now in
    let mid = c.pairs_at.new.self in
    let at = c.args.at in
    let fit = read_fit old mid c.requires.fit c.in_ok-had.ensures.file c.in_ok-had.ensures.trees in
    let next = g.F.Files.holds c.delete_at.new.files in
    let rows = c.delete_at.new.self in
    both_fit mid rows c.take_row.new.trees fit c.in_ok-delete_at.ensures.object c.in_ok-take_row.ensures.name c.in_ok-take_row.ensures.kinds c.in_ok-take_row.ensures.whole

pub returns-clause-made : goal.returns-clause-made
returns-clause-made g c =
    let told = g.F.Files.holds c.args.files.now in
    let then = g.F.Files.holds c.pairs_at.new.files in
    let old = c.args.self.now in
    let mid = c.pairs_at.new.self in
    let at = c.args.at in
    let fit = read_fit old mid c.requires.fit c.in_ok-had.ensures.file c.in_ok-had.ensures.trees in
    let next = g.F.Files.holds c.delete_at.new.files in
    let rows = c.delete_at.new.self in
    let steps : StepLaws = record { made = c.keyed_steps_are_steps.ensures.made; refused = c.keyed_steps_are_steps.ensures.refused; keep = c.keyed_changes_keep_tables.ensures.step } in
    let keyed = laws_of steps (defs_of mid) (delete at) fit.sound tt in
    let half = half_made (delete at) old mid rows told then next at fit.apart c.in_ok-had.ensures.still c.in_ok-delete_at.ensures.ok c.in_ok-delete_at.ensures.others in
    let last = g.F.Files.holds c.take_row.new.files in
    let had = c.as_slice.result.now in
    let goes : Goes (defs_of mid) = λ s p r st found. c.lists_follow_rows.ensures.deleted (defs_of mid) s p r fit.sound st found in
    let same = ap (λ (f : SlotFile). f.defs) c.in_ok-had.ensures.file ∙ c.requires.defs in
    let has = has_as told old c.args.defs.now (defs_of mid) at c.in_ok-had.had.items had same c.as_slice.ensures.value c.in_ok-had.ensures.pairs in
    half_whole (delete at) old mid rows c.take_row.new.trees told next last at fit.apart c.in_ok-had.ensures.file (ap (λ (f : SlotFile). f.defs) c.in_ok-delete_at.ensures.object) (ap (λ (f : SlotFile). f.name) c.in_ok-delete_at.ensures.object)
    keyed (goes_free told old at) half (goes_follow told next last old mid c.take_row.new.trees had at goes has c.in_ok-take_row.ensures.taken) c.in_ok-take_row.ensures.others

pub returns-in_err-had-clause-counted : goal.returns-in_err-had-clause-counted
returns-in_err-had-clause-counted g c = counted_none c.args.self.now c.pairs_at.new.self.trees c.in_err-had.ensures.trees

pub returns-in_err-delete_at-clause-counted : goal.returns-in_err-delete_at-clause-counted
returns-in_err-delete_at-clause-counted g c = counted_none c.args.self.now c.pairs_at.new.self.trees c.in_ok-had.ensures.trees

pub returns-in_err-take_row-clause-counted : goal.returns-in_err-take_row-clause-counted
returns-in_err-take_row-clause-counted g c = counted_back c.args.self.now c.pairs_at.new.self c.take_row.new.trees.cache c.in_ok-had.ensures.trees c.in_err-take_row.ensures.counted

pub returns-clause-counted : goal.returns-clause-counted
returns-clause-counted g c = counted_back c.args.self.now c.pairs_at.new.self c.take_row.new.trees.cache c.in_ok-had.ensures.trees c.in_ok-take_row.ensures.counted

pub returns-in_err-had-clause-causes : goal.returns-in_err-had-clause-causes
returns-in_err-had-clause-causes g c =
    let told = g.F.Files.holds c.args.files.now in
    let file = c.args.self.now.rows.file in
    let places = c.pairs_at.new.self.rows.places in
    let e = err_from_is_err_and c.from_residual.result c.from_residual.ensures.1 in
    if_err c.from_residual.result e.0 (λ f. ByCause (FindsNoneAt file places c.args.at told) Never (LacksReach file places c.args.at) f) e.1
    (subst (λ (f : KeyedFault). ByCause (FindsNoneAt file places c.args.at told) Never (LacksReach file places c.args.at) f) (sym e.2)
    (none_cause (FindsNoneAt file places c.args.at told) Never (LacksReach file places c.args.at) c.in_err-had.field-0.0 c.in_err-had.ensures.causes))

pub returns-in_err-delete_at-clause-causes : goal.returns-in_err-delete_at-clause-causes
returns-in_err-delete_at-clause-causes g c =
    let told = g.F.Files.holds c.args.files.now in
    let then = g.F.Files.holds c.pairs_at.new.files in
    let file = c.args.self.now.rows.file in
    let mid = c.pairs_at.new.self.rows.file in
    let same = c.in_ok-had.ensures.file in
    let places = c.delete_at.new.self.places in
    let at = c.args.at in
    let e = err_from_is_err_and c.from_residual-in_err-delete_at.result c.from_residual-in_err-delete_at.ensures.1 in
    if_err c.from_residual-in_err-delete_at.result e.0 (λ f. ByCause (FindsNoneAt file places at told) Never (LacksReach file places at) f) e.1
    (subst (λ (f : KeyedFault). ByCause (FindsNoneAt file places at told) Never (LacksReach file places at) f) (sym e.2)
    (data_cause (λ p. (p ≡ at) × FindsNone mid places at then) (FindsNoneAt file places at told) Never (LacksReach mid places at) (LacksReach file places at) (FindsRowBad mid places at then) c.in_err-delete_at.field-0.0
    (λ p none. (none.0, subst (λ (h : Option Holding). FindsNone file places at h) c.in_ok-had.ensures.holds (subst (λ (f : SlotFile). FindsNone f places at then) same none.1)))
    (λ full. subst (λ (f : SlotFile). LacksReach f places at) same full) c.in_err-delete_at.ensures.causes))

pub returns-in_err-take_row-clause-causes : goal.returns-in_err-take_row-clause-causes
returns-in_err-take_row-clause-causes g c =
    let told = g.F.Files.holds c.args.files.now in
    let file = c.args.self.now.rows.file in
    let places = c.delete_at.new.self.places in
    let e = err_from_is_err_and c.from_residual-in_err-take_row.result c.from_residual-in_err-take_row.ensures.1 in
    if_err c.from_residual-in_err-take_row.result e.0 (λ f. ByCause (FindsNoneAt file places c.args.at told) Never (LacksReach file places c.args.at) f) e.1
    (subst (λ (f : KeyedFault). ByCause (FindsNoneAt file places c.args.at told) Never (LacksReach file places c.args.at) f) (sym e.2)
    (tree_cause (FindsNoneAt file places c.args.at told) Never (LacksReach file places c.args.at) c.in_err-take_row.field-0.0))
