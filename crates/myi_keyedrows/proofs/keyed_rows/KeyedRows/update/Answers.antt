use Rattle.std.proofs.Common.{◌≡◌, ◌≤◌, ℕ, Option, Some, None, true, length, refl, sym, ap, subst, ◌∙◌, arith}
use Rattle.std.proofs.lemmas.Result.{err_from_is_err_and}
use Rattle.myi_defs.specs.declared.types.Defs.{Defs}
use Rattle.myi_defs.specs.Sound.{IsSound}
use Rattle.myi_pack.specs.Spelling.{fits}
use Rattle.myi_slots.specs.SlotFile.{SlotFile}
use Rattle.myi_state.specs.Changes.{update}
use Rattle.myi_pair.specs.KeyList.{pointer}
use Rattle.myi_keytrees.specs.Trees.{Trees}
use Rattle.myi_rowtrees.specs.RowLists.{row_pairs}
use Rattle.myi_keyedrows.specs.declared.keyed_rows.KeyedRows.{KeyedRows}
use Rattle.myi_keyedrows.specs.declared.fault.KeyedFault.{KeyedFault}
use Rattle.myi_keyedrows.specs.KeyedRows.{defs_of, Refuses, IfReply, StillHold}
use Rattle.myi_keyedrows.specs.Checking.{IsHeldBy}
use Rattle.myi_search.proofs.CallerLemmas.{counts_on}
use Rattle.myi_keyedrows.proofs.FaultLemmas.{if_err}
use Rattle.myi_keyedrows.proofs.HoldLemmas.{still_follow}
use Rattle.myi_keyedrows.proofs.RowLemmas.{pairs_long, pairs_fit, noted_holds}
use Rattle.myi_keyedrows.proofs.StepLemmas.{half_made, half_whole, half_never, refuses_data, refuses_tree, reply_data, reply_any}
use Rattle.myi_keyedrows.proofs.AnswerLemmas.{Back, OfHolder, Moves, stays_absent, stays_free, stays_held, moves_follow, moves_never, held_before, has_as}
use Rattle.myi_keyedrows.proofs.LawLemmas.{counted_none, counted_back, StepLaws, laws_of, looked_defs, looked_file, looked_fit, looked_long, both_fit, read_fit, read_kept}
use Rattle.myi_base.specs.Holding.{Holding, Told, OthersStay}
use Rattle.myi_rows.specs.Refusals.{FindsNone, LacksOther, FindsOtherBad}
use Rattle.myi_rowtrees.specs.Duplicates.{MayRepeat}
use Rattle.myi_keyedrows.specs.Refusals.{ByCause, FindsNoneAt}
use Rattle.myi_keyedrows.proofs.CauseLemmas.{tree_cause, data_cause, pairs_cause, none_cause, none_back, other_back}
use Rattle.myi_keyedrows.proofs.keyed_rows.KeyedRows.update.Goals as goal

pub returns-in_err-had-clause-refused : goal.returns-in_err-had-clause-refused
returns-in_err-had-clause-refused g c =
    let told = g.F.Files.holds c.args.files.now in
    let e = err_from_is_err_and c.from_residual.result c.from_residual.ensures.1 in
    if_err c.from_residual.result e.0 (Refuses (update c.args.at c.args.row.now) told c.args.self.now) e.1
    (subst (λ (f : KeyedFault). Refuses (update c.args.at c.args.row.now) told c.args.self.now f) (sym e.2)
    (stays_absent told c.args.self.now c.args.at c.args.row.now c.in_err-had.field-0.0 c.keyed_refusals_come_in_order.ensures.row c.in_err-had.ensures.absent))

pub returns-in_err-had-clause-fit : goal.returns-in_err-had-clause-fit
returns-in_err-had-clause-fit g c =
    read_fit c.args.self.now c.pairs_at.new.self c.requires.fit c.in_err-had.ensures.file c.in_err-had.ensures.trees

pub returns-in_err-made-clause-fit : goal.returns-in_err-made-clause-fit
returns-in_err-made-clause-fit g c =
    read_fit c.args.self.now c.pairs_at.new.self c.requires.fit c.in_ok-had.ensures.file c.in_ok-had.ensures.trees

pub refuse_duplicate-requires-clause-each : goal.refuse_duplicate-requires-clause-each
refuse_duplicate-requires-clause-each g c κs live =
    pairs_long c.args.defs.now c.args.row.now c.pointer_of-pointer.result c.as_slice-pairs.result.now (c.as_slice-pairs.ensures.value ∙ c.in_ok-made.ensures)

pub refuse_duplicate-requires-clause-fit : goal.refuse_duplicate-requires-clause-fit
refuse_duplicate-requires-clause-fit g c κs live =
    read_fit c.args.self.now c.pairs_at.new.self c.requires.fit c.in_ok-had.ensures.file c.in_ok-had.ensures.trees

pub refuse_duplicate-requires-clause-kept : goal.refuse_duplicate-requires-clause-kept
refuse_duplicate-requires-clause-kept g c κs live =
    read_kept (g.F.Files.holds c.args.files.now) (g.F.Files.holds c.pairs_at.new.files) c.args.self.now c.pairs_at.new.self c.requires.kept c.in_ok-had.ensures.still c.in_ok-had.ensures.holds

pub returns-in_err-refuse_duplicate-clause-refused : goal.returns-in_err-refuse_duplicate-clause-refused
returns-in_err-refuse_duplicate-clause-refused g c =
    let told = g.F.Files.holds c.args.files.now in
    let read = g.F.Files.holds c.pairs_at.new.files in
    let old = c.args.self.now in
    let first = c.pairs_at.new.self in
    let at = c.args.at in
    let d = c.args.defs.now in
    let row = c.args.row.now in
    let first_fit = read_fit old first c.requires.fit c.in_ok-had.ensures.file c.in_ok-had.ensures.trees in
    let first_defs = ap (λ (f : SlotFile). f.defs) c.in_ok-had.ensures.file ∙ c.requires.defs in
    let first_kept = read_kept told read old first c.requires.kept c.in_ok-had.ensures.still c.in_ok-had.ensures.holds in
    let pairs = c.as_slice-pairs.result.now in
    let is = c.as_slice-pairs.ensures.value ∙ c.in_ok-made.ensures in
    let back : Back d = λ s st. c.key_lists_are_in_order.ensures.pointed d s (subst IsSound c.requires.defs c.requires.fit.sound) st in
    let x = c.in_err-refuse_duplicate.field-0.0 in
    let holder = held_before told read old first d pairs (Some (pointer d at)) (λ h. IsHeldBy h x) c.in_ok-had.ensures.still (subst (λ (n : ℕ). OfHolder read first d pairs (Some n) (λ h. IsHeldBy h x)) c.pointer_of-pointer.ensures c.in_err-refuse_duplicate.ensures.held) in
    let e = err_from_is_err_and c.from_residual-in_err-refuse_duplicate.result c.from_residual-in_err-refuse_duplicate.ensures.1 in
    if_err c.from_residual-in_err-refuse_duplicate.result e.0 (Refuses (update at row) told old) e.1
    (subst (λ (f : KeyedFault). Refuses (update at row) told old f) (sym e.2)
    (stays_held told old d at row c.in_ok-had.had.items pairs c.pointer_of-pointer.result x c.keyed_refusals_come_in_order.ensures.key c.requires.defs back c.in_ok-had.ensures.pairs is holder))

pub returns-in_err-refuse_duplicate-clause-unchanged : goal.returns-in_err-refuse_duplicate-clause-unchanged
returns-in_err-refuse_duplicate-clause-unchanged g c =
    let told = g.F.Files.holds c.args.files.now in
    let read = g.F.Files.holds c.pairs_at.new.files in
    let old = c.args.self.now in
    let first = c.pairs_at.new.self in
    let at = c.args.at in
    let d = c.args.defs.now in
    let row = c.args.row.now in
    let first_fit = read_fit old first c.requires.fit c.in_ok-had.ensures.file c.in_ok-had.ensures.trees in
    let first_defs = ap (λ (f : SlotFile). f.defs) c.in_ok-had.ensures.file ∙ c.requires.defs in
    let first_kept = read_kept told read old first c.requires.kept c.in_ok-had.ensures.still c.in_ok-had.ensures.holds in
    let then = g.F.Files.holds c.refuse_duplicate.new.files in
    let mid = c.refuse_duplicate.new.self in
    let looks = c.in_err-refuse_duplicate.ensures.looks in
    let fit = looked_fit read then first mid first_fit looks in
    let same = looked_defs read then first mid d first_defs looks in
    let alike = looked_file read then first mid looks ∙ c.in_ok-had.ensures.file in
    let still = still_follow old first mid told read then c.in_ok-had.ensures.still looks.stand in
    let e = err_from_is_err_and c.from_residual-in_err-refuse_duplicate.result c.from_residual-in_err-refuse_duplicate.ensures.1 in
    if_err c.from_residual-in_err-refuse_duplicate.result e.0 (λ f. IfReply f (StillHold told then old mid)) e.1 (reply_any e.0 (StillHold told then old mid) still)

pub returns-in_err-refuse_duplicate-clause-fit : goal.returns-in_err-refuse_duplicate-clause-fit
returns-in_err-refuse_duplicate-clause-fit g c =
    let told = g.F.Files.holds c.args.files.now in
    let read = g.F.Files.holds c.pairs_at.new.files in
    let old = c.args.self.now in
    let first = c.pairs_at.new.self in
    let at = c.args.at in
    let d = c.args.defs.now in
    let row = c.args.row.now in
    let first_fit = read_fit old first c.requires.fit c.in_ok-had.ensures.file c.in_ok-had.ensures.trees in
    let first_defs = ap (λ (f : SlotFile). f.defs) c.in_ok-had.ensures.file ∙ c.requires.defs in
    let first_kept = read_kept told read old first c.requires.kept c.in_ok-had.ensures.still c.in_ok-had.ensures.holds in
    let then = g.F.Files.holds c.refuse_duplicate.new.files in
    let mid = c.refuse_duplicate.new.self in
    let looks = c.in_err-refuse_duplicate.ensures.looks in
    let fit = looked_fit read then first mid first_fit looks in
    let same = looked_defs read then first mid d first_defs looks in
    let alike = looked_file read then first mid looks ∙ c.in_ok-had.ensures.file in
    let still = still_follow old first mid told read then c.in_ok-had.ensures.still looks.stand in
    fit

pub update_at-requires-clause-long : goal.update_at-requires-clause-long
update_at-requires-clause-long g c κs live =
    let told = g.F.Files.holds c.args.files.now in
    let read = g.F.Files.holds c.pairs_at.new.files in
    let old = c.args.self.now in
    let first = c.pairs_at.new.self in
    let at = c.args.at in
    let d = c.args.defs.now in
    let row = c.args.row.now in
    let first_fit = read_fit old first c.requires.fit c.in_ok-had.ensures.file c.in_ok-had.ensures.trees in
    let first_defs = ap (λ (f : SlotFile). f.defs) c.in_ok-had.ensures.file ∙ c.requires.defs in
    let first_kept = read_kept told read old first c.requires.kept c.in_ok-had.ensures.still c.in_ok-had.ensures.holds in
    let then = g.F.Files.holds c.refuse_duplicate.new.files in
    let mid = c.refuse_duplicate.new.self in
    let looks = c.in_ok-refuse_duplicate.ensures.looks in
    let fit = looked_fit read then first mid first_fit looks in
    let same = looked_defs read then first mid d first_defs looks in
    let alike = looked_file read then first mid looks ∙ c.in_ok-had.ensures.file in
    let still = still_follow old first mid told read then c.in_ok-had.ensures.still looks.stand in
    looked_long read then first mid first_kept looks

pub returns-in_err-update_at-clause-refused : goal.returns-in_err-update_at-clause-refused
returns-in_err-update_at-clause-refused g c =
    let told = g.F.Files.holds c.args.files.now in
    let read = g.F.Files.holds c.pairs_at.new.files in
    let old = c.args.self.now in
    let first = c.pairs_at.new.self in
    let at = c.args.at in
    let d = c.args.defs.now in
    let row = c.args.row.now in
    let first_fit = read_fit old first c.requires.fit c.in_ok-had.ensures.file c.in_ok-had.ensures.trees in
    let first_defs = ap (λ (f : SlotFile). f.defs) c.in_ok-had.ensures.file ∙ c.requires.defs in
    let first_kept = read_kept told read old first c.requires.kept c.in_ok-had.ensures.still c.in_ok-had.ensures.holds in
    let then = g.F.Files.holds c.refuse_duplicate.new.files in
    let mid = c.refuse_duplicate.new.self in
    let looks = c.in_ok-refuse_duplicate.ensures.looks in
    let fit = looked_fit read then first mid first_fit looks in
    let same = looked_defs read then first mid d first_defs looks in
    let alike = looked_file read then first mid looks ∙ c.in_ok-had.ensures.file in
    let still = still_follow old first mid told read then c.in_ok-had.ensures.still looks.stand in
    let pairs = c.as_slice-pairs.result.now in
    let is = c.as_slice-pairs.ensures.value ∙ c.in_ok-made.ensures in
    let back : Back d = λ s st. c.key_lists_are_in_order.ensures.pointed d s (subst IsSound c.requires.defs c.requires.fit.sound) st in
    let steps : StepLaws = record { made = c.keyed_steps_are_steps.ensures.made; refused = c.keyed_steps_are_steps.ensures.refused; keep = c.keyed_changes_keep_tables.ensures.step } in
    let may = subst (λ (q : Defs). fits q row ≡ true) (sym same) c.requires.fits in
    let keyed = laws_of steps (defs_of mid) (update at row) fit.sound may in
    let holder = held_before told read old first d pairs (Some (pointer d at)) (λ h. h ≡ None) c.in_ok-had.ensures.still (subst (λ (n : ℕ). OfHolder read first d pairs (Some n) (λ h. h ≡ None)) c.pointer_of-pointer.ensures c.in_ok-refuse_duplicate.ensures.none) in
    let none = stays_free told old d at row c.in_ok-had.had.items pairs c.pointer_of-pointer.result c.requires.defs back c.in_ok-had.ensures.pairs is holder in
    let e = err_from_is_err_and c.from_residual-in_err-update_at.result c.from_residual-in_err-update_at.ensures.1 in
    if_err c.from_residual-in_err-update_at.result e.0 (Refuses (update at row) told old) e.1
    (subst (λ (f : KeyedFault). Refuses (update at row) told old f) (sym e.2) (refuses_data (update at row) old mid told then c.in_err-update_at.field-0.0 alike keyed still none c.in_err-update_at.ensures.refused))

pub returns-in_err-update_at-clause-unchanged : goal.returns-in_err-update_at-clause-unchanged
returns-in_err-update_at-clause-unchanged g c =
    let told = g.F.Files.holds c.args.files.now in
    let read = g.F.Files.holds c.pairs_at.new.files in
    let old = c.args.self.now in
    let first = c.pairs_at.new.self in
    let at = c.args.at in
    let d = c.args.defs.now in
    let row = c.args.row.now in
    let first_fit = read_fit old first c.requires.fit c.in_ok-had.ensures.file c.in_ok-had.ensures.trees in
    let first_defs = ap (λ (f : SlotFile). f.defs) c.in_ok-had.ensures.file ∙ c.requires.defs in
    let first_kept = read_kept told read old first c.requires.kept c.in_ok-had.ensures.still c.in_ok-had.ensures.holds in
    let then = g.F.Files.holds c.refuse_duplicate.new.files in
    let mid = c.refuse_duplicate.new.self in
    let looks = c.in_ok-refuse_duplicate.ensures.looks in
    let fit = looked_fit read then first mid first_fit looks in
    let same = looked_defs read then first mid d first_defs looks in
    let alike = looked_file read then first mid looks ∙ c.in_ok-had.ensures.file in
    let still = still_follow old first mid told read then c.in_ok-had.ensures.still looks.stand in
    let next = g.F.Files.holds c.update_at.new.files in
    let rows = c.update_at.new.self in
    let new : KeyedRows = record { rows = rows; trees = mid.trees } in
    let e = err_from_is_err_and c.from_residual-in_err-update_at.result c.from_residual-in_err-update_at.ensures.1 in
    if_err c.from_residual-in_err-update_at.result e.0 (λ f. IfReply f (StillHold told next old new)) e.1
    (subst (λ (f : KeyedFault). IfReply f (StillHold told next old new)) (sym e.2)
    (reply_data c.in_err-update_at.field-0.0 (next ≡ then) (StillHold told next old new) c.in_err-update_at.ensures.unchanged
    (λ held. still_follow old mid new told then next still (noted_holds mid rows then next c.in_err-update_at.ensures.same c.in_err-update_at.ensures.kept held))))

pub returns-in_err-update_at-clause-fit : goal.returns-in_err-update_at-clause-fit
returns-in_err-update_at-clause-fit g c =
    let told = g.F.Files.holds c.args.files.now in
    let read = g.F.Files.holds c.pairs_at.new.files in
    let old = c.args.self.now in
    let first = c.pairs_at.new.self in
    let at = c.args.at in
    let d = c.args.defs.now in
    let row = c.args.row.now in
    let first_fit = read_fit old first c.requires.fit c.in_ok-had.ensures.file c.in_ok-had.ensures.trees in
    let first_defs = ap (λ (f : SlotFile). f.defs) c.in_ok-had.ensures.file ∙ c.requires.defs in
    let first_kept = read_kept told read old first c.requires.kept c.in_ok-had.ensures.still c.in_ok-had.ensures.holds in
    let then = g.F.Files.holds c.refuse_duplicate.new.files in
    let mid = c.refuse_duplicate.new.self in
    let looks = c.in_ok-refuse_duplicate.ensures.looks in
    let fit = looked_fit read then first mid first_fit looks in
    let same = looked_defs read then first mid d first_defs looks in
    let alike = looked_file read then first mid looks ∙ c.in_ok-had.ensures.file in
    let still = still_follow old first mid told read then c.in_ok-had.ensures.still looks.stand in
    let next = g.F.Files.holds c.update_at.new.files in
    let rows = c.update_at.new.self in
    read_fit mid (record { rows = rows; trees = mid.trees }) fit c.in_err-update_at.ensures.same refl

pub move_row-requires-clause-each : goal.move_row-requires-clause-each
move_row-requires-clause-each g c κs live =
    let told = g.F.Files.holds c.args.files.now in
    let read = g.F.Files.holds c.pairs_at.new.files in
    let old = c.args.self.now in
    let first = c.pairs_at.new.self in
    let at = c.args.at in
    let d = c.args.defs.now in
    let row = c.args.row.now in
    let first_fit = read_fit old first c.requires.fit c.in_ok-had.ensures.file c.in_ok-had.ensures.trees in
    let first_defs = ap (λ (f : SlotFile). f.defs) c.in_ok-had.ensures.file ∙ c.requires.defs in
    let first_kept = read_kept told read old first c.requires.kept c.in_ok-had.ensures.still c.in_ok-had.ensures.holds in
    let then = g.F.Files.holds c.refuse_duplicate.new.files in
    let mid = c.refuse_duplicate.new.self in
    let looks = c.in_ok-refuse_duplicate.ensures.looks in
    let fit = looked_fit read then first mid first_fit looks in
    let same = looked_defs read then first mid d first_defs looks in
    let alike = looked_file read then first mid looks ∙ c.in_ok-had.ensures.file in
    let still = still_follow old first mid told read then c.in_ok-had.ensures.still looks.stand in
    let pairs = c.as_slice-pairs.result.now in
    let is = c.as_slice-pairs.ensures.value ∙ c.in_ok-made.ensures in
    pairs_long d row c.pointer_of-pointer.result pairs is ∙ ap (λ (q : Defs). length q.keys) (sym same) ∙ sym fit.each

pub move_row-requires-clause-rows : goal.move_row-requires-clause-rows
move_row-requires-clause-rows g c κs live =
    let told = g.F.Files.holds c.args.files.now in
    let read = g.F.Files.holds c.pairs_at.new.files in
    let old = c.args.self.now in
    let first = c.pairs_at.new.self in
    let at = c.args.at in
    let d = c.args.defs.now in
    let row = c.args.row.now in
    let first_fit = read_fit old first c.requires.fit c.in_ok-had.ensures.file c.in_ok-had.ensures.trees in
    let first_defs = ap (λ (f : SlotFile). f.defs) c.in_ok-had.ensures.file ∙ c.requires.defs in
    let first_kept = read_kept told read old first c.requires.kept c.in_ok-had.ensures.still c.in_ok-had.ensures.holds in
    let then = g.F.Files.holds c.refuse_duplicate.new.files in
    let mid = c.refuse_duplicate.new.self in
    let looks = c.in_ok-refuse_duplicate.ensures.looks in
    let fit = looked_fit read then first mid first_fit looks in
    let same = looked_defs read then first mid d first_defs looks in
    let alike = looked_file read then first mid looks ∙ c.in_ok-had.ensures.file in
    let still = still_follow old first mid told read then c.in_ok-had.ensures.still looks.stand in
    let pairs = c.as_slice-pairs.result.now in
    let is = c.as_slice-pairs.ensures.value ∙ c.in_ok-made.ensures in
    let placed = is ∙ ap (λ (q : ℕ). row_pairs d row q) c.pointer_of-pointer.ensures ∙ ap (λ (q : Defs). row_pairs q row (pointer q at)) (sym same) in
    let next = g.F.Files.holds c.update_at.new.files in
    let rows = c.update_at.new.self in
    let inside : at ≤ rows.file.counts.length = let less = c.in_ok-update_at.ensures.inside in omega (arith, less) in
    pairs_fit (defs_of mid) row at rows.file.counts.length mid.trees.places pairs fit.sound inside c.in_ok-update_at.ensures.room fit.pointers placed

pub returns-in_err-move_row-clause-refused : goal.returns-in_err-move_row-clause-refused
returns-in_err-move_row-clause-refused g c =
    let told = g.F.Files.holds c.args.files.now in
    let read = g.F.Files.holds c.pairs_at.new.files in
    let old = c.args.self.now in
    let first = c.pairs_at.new.self in
    let at = c.args.at in
    let d = c.args.defs.now in
    let row = c.args.row.now in
    let first_fit = read_fit old first c.requires.fit c.in_ok-had.ensures.file c.in_ok-had.ensures.trees in
    let first_defs = ap (λ (f : SlotFile). f.defs) c.in_ok-had.ensures.file ∙ c.requires.defs in
    let first_kept = read_kept told read old first c.requires.kept c.in_ok-had.ensures.still c.in_ok-had.ensures.holds in
    let then = g.F.Files.holds c.refuse_duplicate.new.files in
    let mid = c.refuse_duplicate.new.self in
    let looks = c.in_ok-refuse_duplicate.ensures.looks in
    let fit = looked_fit read then first mid first_fit looks in
    let same = looked_defs read then first mid d first_defs looks in
    let alike = looked_file read then first mid looks ∙ c.in_ok-had.ensures.file in
    let still = still_follow old first mid told read then c.in_ok-had.ensures.still looks.stand in
    let pairs = c.as_slice-pairs.result.now in
    let is = c.as_slice-pairs.ensures.value ∙ c.in_ok-made.ensures in
    let placed = is ∙ ap (λ (q : ℕ). row_pairs d row q) c.pointer_of-pointer.ensures ∙ ap (λ (q : Defs). row_pairs q row (pointer q at)) (sym same) in
    let next = g.F.Files.holds c.update_at.new.files in
    let rows = c.update_at.new.self in
    let half = half_made (update at row) old mid rows told then next at fit.apart still c.in_ok-update_at.ensures.ok c.in_ok-update_at.ensures.others in
    let had = c.as_slice.result.now in
    let moves : Moves (defs_of mid) = record { lists = λ s p values r st found. c.lists_follow_rows.ensures.moved (defs_of mid) s p values r fit.sound st found; lack = λ s p values r st found. c.new_rows_are_in_no_list.ensures.updated (defs_of mid) s p values r fit.sound st found } in
    let has = has_as told old d (defs_of mid) at c.in_ok-had.had.items had same c.as_slice.ensures.value c.in_ok-had.ensures.pairs in
    let e = err_from_is_err_and c.from_residual-in_err-move_row.result c.from_residual-in_err-move_row.ensures.1 in
    if_err c.from_residual-in_err-move_row.result e.0 (Refuses (update at row) told old) e.1
    (subst (λ (f : KeyedFault). Refuses (update at row) told old f) (sym e.2)
    (refuses_tree (update at row) told old c.in_err-move_row.field-0.0 (λ q damaged. half_never (update at row) old mid rows told next at half (moves_never row told next old mid had pairs at moves has placed (c.in_err-move_row.ensures.never q damaged)))))

pub returns-in_err-move_row-clause-fit : goal.returns-in_err-move_row-clause-fit
returns-in_err-move_row-clause-fit g c =
    let told = g.F.Files.holds c.args.files.now in
    let read = g.F.Files.holds c.pairs_at.new.files in
    let old = c.args.self.now in
    let first = c.pairs_at.new.self in
    let at = c.args.at in
    let d = c.args.defs.now in
    let row = c.args.row.now in
    let first_fit = read_fit old first c.requires.fit c.in_ok-had.ensures.file c.in_ok-had.ensures.trees in
    let first_defs = ap (λ (f : SlotFile). f.defs) c.in_ok-had.ensures.file ∙ c.requires.defs in
    let first_kept = read_kept told read old first c.requires.kept c.in_ok-had.ensures.still c.in_ok-had.ensures.holds in
    let then = g.F.Files.holds c.refuse_duplicate.new.files in
    let mid = c.refuse_duplicate.new.self in
    let looks = c.in_ok-refuse_duplicate.ensures.looks in
    let fit = looked_fit read then first mid first_fit looks in
    let same = looked_defs read then first mid d first_defs looks in
    let alike = looked_file read then first mid looks ∙ c.in_ok-had.ensures.file in
    let still = still_follow old first mid told read then c.in_ok-had.ensures.still looks.stand in
    let next = g.F.Files.holds c.update_at.new.files in
    let rows = c.update_at.new.self in
    both_fit mid rows c.move_row.new.trees fit c.in_ok-update_at.ensures.object c.in_err-move_row.ensures.name c.in_err-move_row.ensures.kinds c.in_err-move_row.ensures.whole

pub returns-clause-fit : goal.returns-clause-fit
returns-clause-fit g c =
    let told = g.F.Files.holds c.args.files.now in
    let read = g.F.Files.holds c.pairs_at.new.files in
    let old = c.args.self.now in
    let first = c.pairs_at.new.self in
    let at = c.args.at in
    let d = c.args.defs.now in
    let row = c.args.row.now in
    let first_fit = read_fit old first c.requires.fit c.in_ok-had.ensures.file c.in_ok-had.ensures.trees in
    let first_defs = ap (λ (f : SlotFile). f.defs) c.in_ok-had.ensures.file ∙ c.requires.defs in
    let first_kept = read_kept told read old first c.requires.kept c.in_ok-had.ensures.still c.in_ok-had.ensures.holds in
    let then = g.F.Files.holds c.refuse_duplicate.new.files in
    let mid = c.refuse_duplicate.new.self in
    let looks = c.in_ok-refuse_duplicate.ensures.looks in
    let fit = looked_fit read then first mid first_fit looks in
    let same = looked_defs read then first mid d first_defs looks in
    let alike = looked_file read then first mid looks ∙ c.in_ok-had.ensures.file in
    let still = still_follow old first mid told read then c.in_ok-had.ensures.still looks.stand in
    let next = g.F.Files.holds c.update_at.new.files in
    let rows = c.update_at.new.self in
    both_fit mid rows c.move_row.new.trees fit c.in_ok-update_at.ensures.object c.in_ok-move_row.ensures.name c.in_ok-move_row.ensures.kinds c.in_ok-move_row.ensures.whole

pub returns-clause-made : goal.returns-clause-made
returns-clause-made g c =
    let told = g.F.Files.holds c.args.files.now in
    let read = g.F.Files.holds c.pairs_at.new.files in
    let old = c.args.self.now in
    let first = c.pairs_at.new.self in
    let at = c.args.at in
    let d = c.args.defs.now in
    let row = c.args.row.now in
    let first_fit = read_fit old first c.requires.fit c.in_ok-had.ensures.file c.in_ok-had.ensures.trees in
    let first_defs = ap (λ (f : SlotFile). f.defs) c.in_ok-had.ensures.file ∙ c.requires.defs in
    let first_kept = read_kept told read old first c.requires.kept c.in_ok-had.ensures.still c.in_ok-had.ensures.holds in
    let then = g.F.Files.holds c.refuse_duplicate.new.files in
    let mid = c.refuse_duplicate.new.self in
    let looks = c.in_ok-refuse_duplicate.ensures.looks in
    let fit = looked_fit read then first mid first_fit looks in
    let same = looked_defs read then first mid d first_defs looks in
    let alike = looked_file read then first mid looks ∙ c.in_ok-had.ensures.file in
    let still = still_follow old first mid told read then c.in_ok-had.ensures.still looks.stand in
    let pairs = c.as_slice-pairs.result.now in
    let is = c.as_slice-pairs.ensures.value ∙ c.in_ok-made.ensures in
    let back : Back d = λ s st. c.key_lists_are_in_order.ensures.pointed d s (subst IsSound c.requires.defs c.requires.fit.sound) st in
    let steps : StepLaws = record { made = c.keyed_steps_are_steps.ensures.made; refused = c.keyed_steps_are_steps.ensures.refused; keep = c.keyed_changes_keep_tables.ensures.step } in
    let may = subst (λ (q : Defs). fits q row ≡ true) (sym same) c.requires.fits in
    let keyed = laws_of steps (defs_of mid) (update at row) fit.sound may in
    let holder = held_before told read old first d pairs (Some (pointer d at)) (λ h. h ≡ None) c.in_ok-had.ensures.still (subst (λ (n : ℕ). OfHolder read first d pairs (Some n) (λ h. h ≡ None)) c.pointer_of-pointer.ensures c.in_ok-refuse_duplicate.ensures.none) in
    let none = stays_free told old d at row c.in_ok-had.had.items pairs c.pointer_of-pointer.result c.requires.defs back c.in_ok-had.ensures.pairs is holder in
    let placed = is ∙ ap (λ (q : ℕ). row_pairs d row q) c.pointer_of-pointer.ensures ∙ ap (λ (q : Defs). row_pairs q row (pointer q at)) (sym same) in
    let next = g.F.Files.holds c.update_at.new.files in
    let rows = c.update_at.new.self in
    let half = half_made (update at row) old mid rows told then next at fit.apart still c.in_ok-update_at.ensures.ok c.in_ok-update_at.ensures.others in
    let had = c.as_slice.result.now in
    let moves : Moves (defs_of mid) = record { lists = λ s p values r st found. c.lists_follow_rows.ensures.moved (defs_of mid) s p values r fit.sound st found; lack = λ s p values r st found. c.new_rows_are_in_no_list.ensures.updated (defs_of mid) s p values r fit.sound st found } in
    let has = has_as told old d (defs_of mid) at c.in_ok-had.had.items had same c.as_slice.ensures.value c.in_ok-had.ensures.pairs in
    let last = g.F.Files.holds c.move_row.new.files in
    half_whole (update at row) old mid rows c.move_row.new.trees told next last at fit.apart alike (ap (λ (f : SlotFile). f.defs) c.in_ok-update_at.ensures.object) (ap (λ (f : SlotFile). f.name) c.in_ok-update_at.ensures.object)
    keyed none half (moves_follow row told next last old mid c.move_row.new.trees had pairs at moves has placed c.in_ok-move_row.ensures.moved) c.in_ok-move_row.ensures.others

pub returns-in_err-had-clause-counted : goal.returns-in_err-had-clause-counted
returns-in_err-had-clause-counted g c = counted_none c.args.self.now c.pairs_at.new.self.trees c.in_err-had.ensures.trees

pub returns-in_err-made-clause-counted : goal.returns-in_err-made-clause-counted
returns-in_err-made-clause-counted g c = counted_none c.args.self.now c.pairs_at.new.self.trees c.in_ok-had.ensures.trees

pub returns-in_err-refuse_duplicate-clause-counted : goal.returns-in_err-refuse_duplicate-clause-counted
returns-in_err-refuse_duplicate-clause-counted g c = counted_back c.args.self.now c.pairs_at.new.self c.refuse_duplicate.new.self.trees.cache c.in_ok-had.ensures.trees c.in_err-refuse_duplicate.ensures.looks.counted

pub returns-in_err-update_at-clause-counted : goal.returns-in_err-update_at-clause-counted
returns-in_err-update_at-clause-counted g c = counted_back c.args.self.now c.pairs_at.new.self c.refuse_duplicate.new.self.trees.cache c.in_ok-had.ensures.trees c.in_ok-refuse_duplicate.ensures.looks.counted

pub returns-in_err-move_row-clause-counted : goal.returns-in_err-move_row-clause-counted
returns-in_err-move_row-clause-counted g c = counted_back c.args.self.now c.pairs_at.new.self c.move_row.new.trees.cache c.in_ok-had.ensures.trees (counts_on c.pairs_at.new.self.trees.cache c.refuse_duplicate.new.self.trees.cache c.move_row.new.trees.cache c.in_ok-refuse_duplicate.ensures.looks.counted c.in_err-move_row.ensures.counted)

pub returns-clause-counted : goal.returns-clause-counted
returns-clause-counted g c = counted_back c.args.self.now c.pairs_at.new.self c.move_row.new.trees.cache c.in_ok-had.ensures.trees (counts_on c.pairs_at.new.self.trees.cache c.refuse_duplicate.new.self.trees.cache c.move_row.new.trees.cache c.in_ok-refuse_duplicate.ensures.looks.counted c.in_ok-move_row.ensures.counted)

pub returns-in_err-had-clause-causes : goal.returns-in_err-had-clause-causes
returns-in_err-had-clause-causes g c =
    let told = g.F.Files.holds c.args.files.now in
    let file = c.args.self.now.rows.file in
    let places = c.pairs_at.new.self.rows.places in
    let at = c.args.at in
    let row = c.args.row.now in
    let e = err_from_is_err_and c.from_residual.result c.from_residual.ensures.1 in
    if_err c.from_residual.result e.0 (λ f. ByCause (FindsNoneAt file places at told) (MayRepeat c.args.defs.now c.args.row.now) (LacksOther file places at row told) f) e.1
    (subst (λ (f : KeyedFault). ByCause (FindsNoneAt file places at told) (MayRepeat c.args.defs.now c.args.row.now) (LacksOther file places at row told) f) (sym e.2)
    (none_cause (FindsNoneAt file places at told) (MayRepeat c.args.defs.now c.args.row.now) (LacksOther file places at row told) c.in_err-had.field-0.0 c.in_err-had.ensures.causes))

pub returns-in_err-refuse_duplicate-clause-causes : goal.returns-in_err-refuse_duplicate-clause-causes
returns-in_err-refuse_duplicate-clause-causes g c =
    let told = g.F.Files.holds c.args.files.now in
    let file = c.args.self.now.rows.file in
    let places = c.refuse_duplicate.new.self.rows.places in
    let at = c.args.at in
    let row = c.args.row.now in
    let e = err_from_is_err_and c.from_residual-in_err-refuse_duplicate.result c.from_residual-in_err-refuse_duplicate.ensures.1 in
    if_err c.from_residual-in_err-refuse_duplicate.result e.0 (λ f. ByCause (FindsNoneAt file places at told) (MayRepeat c.args.defs.now c.args.row.now) (LacksOther file places at row told) f) e.1
    (subst (λ (f : KeyedFault). ByCause (FindsNoneAt file places at told) (MayRepeat c.args.defs.now c.args.row.now) (LacksOther file places at row told) f) (sym e.2)
    (pairs_cause (FindsNoneAt file places at told) (LacksOther file places at row told) c.args.defs.now c.as_slice-pairs.result.now c.args.row.now c.pointer_of-pointer.result c.in_err-refuse_duplicate.field-0.0 (c.as_slice-pairs.ensures.value ∙ c.in_ok-made.ensures) c.in_err-refuse_duplicate.ensures.causes))

pub returns-in_err-update_at-clause-causes : goal.returns-in_err-update_at-clause-causes
returns-in_err-update_at-clause-causes g c =
    let told = g.F.Files.holds c.args.files.now in
    let read = g.F.Files.holds c.pairs_at.new.files in
    let then = g.F.Files.holds c.refuse_duplicate.new.files in
    let first = c.pairs_at.new.self in
    let looks = c.in_ok-refuse_duplicate.ensures.looks in
    let file = c.args.self.now.rows.file in
    let mid = c.refuse_duplicate.new.self.rows.file in
    let same = looked_file read then first c.refuse_duplicate.new.self looks ∙ c.in_ok-had.ensures.file in
    let index = c.args.self.now.trees.cache.name in
    let stays = subst (λ (t : Trees). Told read then (OthersStay t.cache.name)) c.in_ok-had.ensures.trees looks.others in
    let places = c.update_at.new.self.places in
    let at = c.args.at in
    let row = c.args.row.now in
    let e = err_from_is_err_and c.from_residual-in_err-update_at.result c.from_residual-in_err-update_at.ensures.1 in
    if_err c.from_residual-in_err-update_at.result e.0 (λ f. ByCause (FindsNoneAt file places at told) (MayRepeat c.args.defs.now c.args.row.now) (LacksOther file places at row told) f) e.1
    (subst (λ (f : KeyedFault). ByCause (FindsNoneAt file places at told) (MayRepeat c.args.defs.now c.args.row.now) (LacksOther file places at row told) f) (sym e.2)
    (data_cause (λ p. (p ≡ at) × FindsNone mid places at then) (FindsNoneAt file places at told) (MayRepeat c.args.defs.now c.args.row.now) (LacksOther mid places at row then) (LacksOther file places at row told) (FindsOtherBad mid places at row then) c.in_err-update_at.field-0.0
    (λ p none. (none.0, subst (λ (h : Option Holding). FindsNone file places at h) c.in_ok-had.ensures.holds (none_back file places at index read then c.requires.fit.apart stays (subst (λ (f : SlotFile). FindsNone f places at then) same none.1))))
    (λ full. subst (λ (h : Option Holding). LacksOther file places at row h) c.in_ok-had.ensures.holds (other_back file places at row index read then c.requires.fit.apart stays (subst (λ (f : SlotFile). LacksOther f places at row then) same full))) c.in_err-update_at.ensures.causes))

pub returns-in_err-move_row-clause-causes : goal.returns-in_err-move_row-clause-causes
returns-in_err-move_row-clause-causes g c =
    let told = g.F.Files.holds c.args.files.now in
    let file = c.args.self.now.rows.file in
    let places = c.update_at.new.self.places in
    let at = c.args.at in
    let row = c.args.row.now in
    let e = err_from_is_err_and c.from_residual-in_err-move_row.result c.from_residual-in_err-move_row.ensures.1 in
    if_err c.from_residual-in_err-move_row.result e.0 (λ f. ByCause (FindsNoneAt file places at told) (MayRepeat c.args.defs.now c.args.row.now) (LacksOther file places at row told) f) e.1
    (subst (λ (f : KeyedFault). ByCause (FindsNoneAt file places at told) (MayRepeat c.args.defs.now c.args.row.now) (LacksOther file places at row told) f) (sym e.2)
    (tree_cause (FindsNoneAt file places at told) (MayRepeat c.args.defs.now c.args.row.now) (LacksOther file places at row told) c.in_err-move_row.field-0.0))
