use Rattle.std.proofs.Common.{◌≡◌, true, length, sym, ap, subst, ◌∙◌}
use Rattle.std.proofs.lemmas.Result.{err_from_is_err_and}
use Rattle.myi_defs.specs.declared.types.Defs.{Defs}
use Rattle.myi_pack.specs.Spelling.{fits}
use Rattle.myi_slots.specs.SlotFile.{SlotFile}
use Rattle.myi_state.specs.Changes.{Change}
use Rattle.myi_keyedrows.specs.declared.fault.KeyedFault.{KeyedFault}
use Rattle.myi_keyedrows.specs.declared.keyed_rows.KeyedRows.{KeyedRows}
use Rattle.myi_keyedrows.specs.KeyedRows.{defs_of, Refuses, IfReply, StillHold}
use Rattle.myi_keyedrows.specs.Checking.{come}
use Rattle.myi_search.proofs.CallerLemmas.{counts_none, counts_on}
use Rattle.myi_keyedrows.proofs.FaultLemmas.{if_err}
use Rattle.myi_keyedrows.proofs.AddedLemmas.{added_whole}
use Rattle.myi_keyedrows.proofs.RowLemmas.{pairs_long, pairs_fit}
use Rattle.myi_keyedrows.proofs.StepLemmas.{half_made, half_whole, half_never, refuses_data, refuses_tree, reply_data}
use Rattle.myi_keyedrows.proofs.AnswerLemmas.{may_come, comes_free, comes_held, comes, comes_follow, comes_never}
use Rattle.myi_keyedrows.proofs.LawLemmas.{placed_pairs, StepLaws, laws_of, looked_defs, looked_file, looked_fit, looked_long, counted_fit, both_fit, refused_stays}
use Rattle.myi_slots.specs.SlotFile.{Never}
use Rattle.myi_rowtrees.specs.Duplicates.{MayRepeat}
use Rattle.myi_keyedrows.specs.Refusals.{ByCause, LacksPlace}
use Rattle.myi_keyedrows.specs.Checking.{FindsNewBad}
use Rattle.myi_keyedrows.proofs.CauseLemmas.{tree_cause, data_cause, pairs_cause, place_back}
use Rattle.myi_keyedrows.proofs.keyed_rows.KeyedRows.insert_row.Goals as goal

pub refuse_duplicate-requires-clause-each : goal.refuse_duplicate-requires-clause-each
refuse_duplicate-requires-clause-each g c κs live = pairs_long c.args.defs.now c.args.row.now c.pointer_of-pointer.result c.as_slice-pairs.result.now (c.as_slice-pairs.ensures.value ∙ c.in_ok-made.ensures)

pub returns-in_err-refuse_duplicate-clause-refused : goal.returns-in_err-refuse_duplicate-clause-refused
returns-in_err-refuse_duplicate-clause-refused g c =
    let told = g.F.Files.holds c.args.files.now in
    let e = err_from_is_err_and c.from_residual-in_err-refuse_duplicate.result c.from_residual-in_err-refuse_duplicate.ensures.1 in
    if_err c.from_residual-in_err-refuse_duplicate.result e.0 (Refuses (come c.args.at_end c.args.row.now) told c.args.self.now) e.1
    (subst (λ (f : KeyedFault). Refuses (come c.args.at_end c.args.row.now) told c.args.self.now f) (sym e.2)
    (comes_held c.args.at_end told c.args.self.now c.args.defs.now c.args.row.now c.as_slice-pairs.result.now c.pointer_of-pointer.result c.in_err-refuse_duplicate.field-0.0 c.keyed_refusals_come_in_order.ensures.key c.requires.defs (c.as_slice-pairs.ensures.value ∙ c.in_ok-made.ensures) c.in_err-refuse_duplicate.ensures.held))

pub returns-in_err-refuse_duplicate-clause-fit : goal.returns-in_err-refuse_duplicate-clause-fit
returns-in_err-refuse_duplicate-clause-fit g c = looked_fit (g.F.Files.holds c.args.files.now) (g.F.Files.holds c.refuse_duplicate.new.files) c.args.self.now c.refuse_duplicate.new.self c.requires.fit c.in_err-refuse_duplicate.ensures.looks

pub put_in_file-requires-clause-long : goal.put_in_file-requires-clause-long
put_in_file-requires-clause-long g c κs live = looked_long (g.F.Files.holds c.args.files.now) (g.F.Files.holds c.refuse_duplicate.new.files) c.args.self.now c.refuse_duplicate.new.self c.requires.kept c.in_ok-refuse_duplicate.ensures.looks

pub returns-in_err-at-clause-refused : goal.returns-in_err-at-clause-refused
returns-in_err-at-clause-refused g c =
    let told = g.F.Files.holds c.args.files.now in
    let then = g.F.Files.holds c.refuse_duplicate.new.files in
    let next = g.F.Files.holds c.put_in_file.new.files in
    let old = c.args.self.now in
    let mid = c.refuse_duplicate.new.self in
    let d = c.args.defs.now in
    let row = c.args.row.now in
    let ch : Change = come c.args.at_end row in
    let looks = c.in_ok-refuse_duplicate.ensures.looks in
    let same = looked_defs told then old mid d c.requires.defs looks in
    let fit = looked_fit told then old mid c.requires.fit looks in
    let pairs = c.as_slice-pairs.result.now in
    let is = c.as_slice-pairs.ensures.value ∙ c.in_ok-made.ensures in
    let may = subst (λ (q : Defs). fits q row ≡ true) (sym same) c.requires.fits in
    let steps : StepLaws = record { made = c.keyed_steps_are_steps.ensures.made; refused = c.keyed_steps_are_steps.ensures.refused; keep = c.keyed_changes_keep_tables.ensures.step } in
    let keyed = laws_of steps (defs_of mid) ch fit.sound (may_come c.args.at_end (defs_of mid) row may) in
    let none = comes_free c.args.at_end told old d row pairs c.pointer_of-pointer.result c.requires.defs is c.in_ok-refuse_duplicate.ensures.none in
    let e = err_from_is_err_and c.from_residual-in_err-at.result c.from_residual-in_err-at.ensures.1 in
    if_err c.from_residual-in_err-at.result e.0 (Refuses ch told old) e.1
    (subst (λ (f : KeyedFault). Refuses ch told old f) (sym e.2) (refuses_data ch old mid told then c.in_err-at.field-0.0 (looked_file told then old mid looks) keyed looks.stand none c.in_err-at.ensures.refused))

pub returns-in_err-at-clause-unchanged : goal.returns-in_err-at-clause-unchanged
returns-in_err-at-clause-unchanged g c =
    let told = g.F.Files.holds c.args.files.now in
    let then = g.F.Files.holds c.refuse_duplicate.new.files in
    let next = g.F.Files.holds c.put_in_file.new.files in
    let old = c.args.self.now in
    let mid = c.refuse_duplicate.new.self in
    let new : KeyedRows = record { rows = c.put_in_file.new.rows; trees = mid.trees } in
    let looks = c.in_ok-refuse_duplicate.ensures.looks in
    let e = err_from_is_err_and c.from_residual-in_err-at.result c.from_residual-in_err-at.ensures.1 in
    if_err c.from_residual-in_err-at.result e.0 (λ f. IfReply f (StillHold told next old new)) e.1
    (subst (λ (f : KeyedFault). IfReply f (StillHold told next old new)) (sym e.2)
    (reply_data c.in_err-at.field-0.0 (next ≡ then) (StillHold told next old new) c.in_err-at.ensures.unchanged (λ held. refused_stays told then next old mid c.put_in_file.new.rows looks.stand c.in_err-at.ensures.same held)))

pub returns-in_err-at-clause-fit : goal.returns-in_err-at-clause-fit
returns-in_err-at-clause-fit g c = counted_fit c.refuse_duplicate.new.self c.put_in_file.new.rows (looked_fit (g.F.Files.holds c.args.files.now) (g.F.Files.holds c.refuse_duplicate.new.files) c.args.self.now c.refuse_duplicate.new.self c.requires.fit c.in_ok-refuse_duplicate.ensures.looks) c.in_err-at.ensures.object

pub put_row-requires-clause-each : goal.put_row-requires-clause-each
put_row-requires-clause-each g c κs live =
    let told = g.F.Files.holds c.args.files.now in
    let then = g.F.Files.holds c.refuse_duplicate.new.files in
    let mid = c.refuse_duplicate.new.self in
    let looks = c.in_ok-refuse_duplicate.ensures.looks in
    let fit = looked_fit told then c.args.self.now mid c.requires.fit looks in
    pairs_long c.args.defs.now c.args.row.now c.pointer_of-pointer.result c.as_slice-pairs.result.now (c.as_slice-pairs.ensures.value ∙ c.in_ok-made.ensures)
    ∙ ap (λ (q : Defs). length q.keys) (sym (looked_defs told then c.args.self.now mid c.args.defs.now c.requires.defs looks)) ∙ sym fit.each

pub put_row-requires-clause-rows : goal.put_row-requires-clause-rows
put_row-requires-clause-rows g c κs live =
    let told = g.F.Files.holds c.args.files.now in
    let then = g.F.Files.holds c.refuse_duplicate.new.files in
    let old = c.args.self.now in
    let mid = c.refuse_duplicate.new.self in
    let d = c.args.defs.now in
    let row = c.args.row.now in
    let looks = c.in_ok-refuse_duplicate.ensures.looks in
    let same = looked_defs told then old mid d c.requires.defs looks in
    let fit = looked_fit told then old mid c.requires.fit looks in
    let pairs = c.as_slice-pairs.result.now in
    let is = c.as_slice-pairs.ensures.value ∙ c.in_ok-made.ensures in
    let at = c.in_ok-at.at in
    let placed = placed_pairs c.args.at_end d (defs_of mid) row pairs c.pointer_of-pointer.result c.next_place.result at old.rows mid.rows same is c.pointer_of-pointer.ensures c.next_place.ensures c.in_ok-at.ensures.place looks.rows in
    pairs_fit (defs_of mid) row at c.put_in_file.new.rows.file.counts.length mid.trees.places pairs fit.sound c.in_ok-at.ensures.inside c.in_ok-at.ensures.room fit.pointers placed

pub returns-in_err-put_row-clause-refused : goal.returns-in_err-put_row-clause-refused
returns-in_err-put_row-clause-refused g c =
    let told = g.F.Files.holds c.args.files.now in
    let then = g.F.Files.holds c.refuse_duplicate.new.files in
    let next = g.F.Files.holds c.put_in_file.new.files in
    let old = c.args.self.now in
    let mid = c.refuse_duplicate.new.self in
    let d = c.args.defs.now in
    let row = c.args.row.now in
    let ch : Change = come c.args.at_end row in
    let looks = c.in_ok-refuse_duplicate.ensures.looks in
    let same = looked_defs told then old mid d c.requires.defs looks in
    let fit = looked_fit told then old mid c.requires.fit looks in
    let pairs = c.as_slice-pairs.result.now in
    let is = c.as_slice-pairs.ensures.value ∙ c.in_ok-made.ensures in
    let may = subst (λ (q : Defs). fits q row ≡ true) (sym same) c.requires.fits in
    let at = c.in_ok-at.at in
    let placed = placed_pairs c.args.at_end d (defs_of mid) row pairs c.pointer_of-pointer.result c.next_place.result at old.rows mid.rows same is c.pointer_of-pointer.ensures c.next_place.ensures c.in_ok-at.ensures.place looks.rows in
    let half = half_made ch old mid c.put_in_file.new.rows told then next at fit.apart looks.stand c.in_ok-at.ensures.ok c.in_ok-at.ensures.others in
    let come_laws = comes c.args.at_end (defs_of mid) row (record { lists = λ s st. c.lists_follow_rows.ensures.appended (defs_of mid) s row fit.sound st; lack = λ s st. c.new_rows_are_in_no_list.ensures.appended (defs_of mid) s row fit.sound may st })
    (record { lists = λ s st. c.lists_follow_rows.ensures.inserted (defs_of mid) s row fit.sound st; lack = λ s st. c.new_rows_are_in_no_list.ensures.inserted (defs_of mid) s row fit.sound may st }) in
    let e = err_from_is_err_and c.from_residual-in_err-put_row.result c.from_residual-in_err-put_row.ensures.1 in
    if_err c.from_residual-in_err-put_row.result e.0 (Refuses ch told old) e.1
    (subst (λ (f : KeyedFault). Refuses ch told old f) (sym e.2)
    (refuses_tree ch told old c.in_err-put_row.field-0.0 (λ q damaged. half_never ch old mid c.put_in_file.new.rows told next at half (comes_never ch row told next old mid pairs at come_laws placed (c.in_err-put_row.ensures.never q damaged)))))

pub returns-in_err-put_row-clause-fit : goal.returns-in_err-put_row-clause-fit
returns-in_err-put_row-clause-fit g c =
    both_fit c.refuse_duplicate.new.self c.put_in_file.new.rows c.put_row.new.trees (looked_fit (g.F.Files.holds c.args.files.now) (g.F.Files.holds c.refuse_duplicate.new.files) c.args.self.now c.refuse_duplicate.new.self c.requires.fit c.in_ok-refuse_duplicate.ensures.looks) c.in_ok-at.ensures.object
    c.in_err-put_row.ensures.name c.in_err-put_row.ensures.kinds c.in_err-put_row.ensures.whole

pub returns-clause-fit : goal.returns-clause-fit
returns-clause-fit g c =
    both_fit c.refuse_duplicate.new.self c.put_in_file.new.rows c.put_row.new.trees (looked_fit (g.F.Files.holds c.args.files.now) (g.F.Files.holds c.refuse_duplicate.new.files) c.args.self.now c.refuse_duplicate.new.self c.requires.fit c.in_ok-refuse_duplicate.ensures.looks) c.in_ok-at.ensures.object
    c.in_ok-put_row.ensures.name c.in_ok-put_row.ensures.kinds c.in_ok-put_row.ensures.whole

pub returns-clause-made : goal.returns-clause-made
returns-clause-made g c =
    let told = g.F.Files.holds c.args.files.now in
    let then = g.F.Files.holds c.refuse_duplicate.new.files in
    let next = g.F.Files.holds c.put_in_file.new.files in
    let old = c.args.self.now in
    let mid = c.refuse_duplicate.new.self in
    let d = c.args.defs.now in
    let row = c.args.row.now in
    let ch : Change = come c.args.at_end row in
    let looks = c.in_ok-refuse_duplicate.ensures.looks in
    let same = looked_defs told then old mid d c.requires.defs looks in
    let fit = looked_fit told then old mid c.requires.fit looks in
    let pairs = c.as_slice-pairs.result.now in
    let is = c.as_slice-pairs.ensures.value ∙ c.in_ok-made.ensures in
    let may = subst (λ (q : Defs). fits q row ≡ true) (sym same) c.requires.fits in
    let steps : StepLaws = record { made = c.keyed_steps_are_steps.ensures.made; refused = c.keyed_steps_are_steps.ensures.refused; keep = c.keyed_changes_keep_tables.ensures.step } in
    let keyed = laws_of steps (defs_of mid) ch fit.sound (may_come c.args.at_end (defs_of mid) row may) in
    let none = comes_free c.args.at_end told old d row pairs c.pointer_of-pointer.result c.requires.defs is c.in_ok-refuse_duplicate.ensures.none in
    let at = c.in_ok-at.at in
    let placed = placed_pairs c.args.at_end d (defs_of mid) row pairs c.pointer_of-pointer.result c.next_place.result at old.rows mid.rows same is c.pointer_of-pointer.ensures c.next_place.ensures c.in_ok-at.ensures.place looks.rows in
    let half = half_made ch old mid c.put_in_file.new.rows told then next at fit.apart looks.stand c.in_ok-at.ensures.ok c.in_ok-at.ensures.others in
    let come_laws = comes c.args.at_end (defs_of mid) row (record { lists = λ s st. c.lists_follow_rows.ensures.appended (defs_of mid) s row fit.sound st; lack = λ s st. c.new_rows_are_in_no_list.ensures.appended (defs_of mid) s row fit.sound may st })
    (record { lists = λ s st. c.lists_follow_rows.ensures.inserted (defs_of mid) s row fit.sound st; lack = λ s st. c.new_rows_are_in_no_list.ensures.inserted (defs_of mid) s row fit.sound may st }) in
    let last = g.F.Files.holds c.put_row.new.files in
    half_whole ch old mid c.put_in_file.new.rows c.put_row.new.trees told next last at fit.apart (looked_file told then old mid looks) (ap (λ (f : SlotFile). f.defs) c.in_ok-at.ensures.object) (ap (λ (f : SlotFile). f.name) c.in_ok-at.ensures.object)
    keyed none half (comes_follow ch row told next last old mid c.put_row.new.trees pairs at come_laws placed c.in_ok-put_row.ensures.put) c.in_ok-put_row.ensures.others

pub returns-in_err-made-clause-counted : goal.returns-in_err-made-clause-counted
returns-in_err-made-clause-counted g c = counts_none c.args.self.now.trees.cache

pub returns-in_err-refuse_duplicate-clause-counted : goal.returns-in_err-refuse_duplicate-clause-counted
returns-in_err-refuse_duplicate-clause-counted g c = c.in_err-refuse_duplicate.ensures.looks.counted

pub returns-in_err-at-clause-counted : goal.returns-in_err-at-clause-counted
returns-in_err-at-clause-counted g c = c.in_ok-refuse_duplicate.ensures.looks.counted

pub returns-in_err-put_row-clause-counted : goal.returns-in_err-put_row-clause-counted
returns-in_err-put_row-clause-counted g c = counts_on c.args.self.now.trees.cache c.refuse_duplicate.new.self.trees.cache c.put_row.new.trees.cache c.in_ok-refuse_duplicate.ensures.looks.counted c.in_err-put_row.ensures.counted

pub returns-clause-counted : goal.returns-clause-counted
returns-clause-counted g c = counts_on c.args.self.now.trees.cache c.refuse_duplicate.new.self.trees.cache c.put_row.new.trees.cache c.in_ok-refuse_duplicate.ensures.looks.counted c.in_ok-put_row.ensures.counted

pub returns-clause-appended : goal.returns-clause-appended
returns-clause-appended g c =
    let told = g.F.Files.holds c.args.files.now in
    let then = g.F.Files.holds c.refuse_duplicate.new.files in
    let next = g.F.Files.holds c.put_in_file.new.files in
    let last = g.F.Files.holds c.put_row.new.files in
    let looks = c.in_ok-refuse_duplicate.ensures.looks in
    added_whole c.args.at_end c.args.self.now c.refuse_duplicate.new.self c.put_in_file.new.rows.file c.args.row.now told then next last c.requires.fit.apart looks.rows looks.name looks.others c.in_ok-at.ensures.appended c.in_ok-put_row.ensures.others

pub returns-in_err-refuse_duplicate-clause-causes : goal.returns-in_err-refuse_duplicate-clause-causes
returns-in_err-refuse_duplicate-clause-causes g c =
    let e = err_from_is_err_and c.from_residual-in_err-refuse_duplicate.result c.from_residual-in_err-refuse_duplicate.ensures.1 in
    if_err c.from_residual-in_err-refuse_duplicate.result e.0 (λ f. ByCause Never (MayRepeat c.args.defs.now c.args.row.now) (LacksPlace c.args.at_end c.args.self.now.rows.file c.args.row.now (g.F.Files.holds c.args.files.now)) f) e.1
    (subst (λ (f : KeyedFault). ByCause Never (MayRepeat c.args.defs.now c.args.row.now) (LacksPlace c.args.at_end c.args.self.now.rows.file c.args.row.now (g.F.Files.holds c.args.files.now)) f) (sym e.2)
    (pairs_cause Never (LacksPlace c.args.at_end c.args.self.now.rows.file c.args.row.now (g.F.Files.holds c.args.files.now)) c.args.defs.now c.as_slice-pairs.result.now c.args.row.now c.pointer_of-pointer.result c.in_err-refuse_duplicate.field-0.0 (c.as_slice-pairs.ensures.value ∙ c.in_ok-made.ensures) c.in_err-refuse_duplicate.ensures.causes))

pub returns-in_err-at-clause-causes : goal.returns-in_err-at-clause-causes
returns-in_err-at-clause-causes g c =
    let told = g.F.Files.holds c.args.files.now in
    let then = g.F.Files.holds c.refuse_duplicate.new.files in
    let old = c.args.self.now in
    let mid = c.refuse_duplicate.new.self in
    let looks = c.in_ok-refuse_duplicate.ensures.looks in
    let same = looked_file told then old mid looks in
    let e = err_from_is_err_and c.from_residual-in_err-at.result c.from_residual-in_err-at.ensures.1 in
    if_err c.from_residual-in_err-at.result e.0 (λ f. ByCause Never (MayRepeat c.args.defs.now c.args.row.now) (LacksPlace c.args.at_end c.args.self.now.rows.file c.args.row.now (g.F.Files.holds c.args.files.now)) f) e.1
    (subst (λ (f : KeyedFault). ByCause Never (MayRepeat c.args.defs.now c.args.row.now) (LacksPlace c.args.at_end c.args.self.now.rows.file c.args.row.now (g.F.Files.holds c.args.files.now)) f) (sym e.2)
    (data_cause Never Never (MayRepeat c.args.defs.now c.args.row.now) (LacksPlace c.args.at_end mid.rows.file c.args.row.now then) (LacksPlace c.args.at_end c.args.self.now.rows.file c.args.row.now (g.F.Files.holds c.args.files.now)) (FindsNewBad c.args.at_end mid.rows.file c.args.row.now then) c.in_err-at.field-0.0 (λ p none. none)
    (λ lacks. place_back c.args.at_end old.rows.file c.args.row.now old.trees.cache.name told then c.requires.fit.apart looks.others (subst (λ (f : SlotFile). LacksPlace c.args.at_end f c.args.row.now then) same lacks)) c.in_err-at.ensures.causes))

pub returns-in_err-put_row-clause-causes : goal.returns-in_err-put_row-clause-causes
returns-in_err-put_row-clause-causes g c =
    let e = err_from_is_err_and c.from_residual-in_err-put_row.result c.from_residual-in_err-put_row.ensures.1 in
    if_err c.from_residual-in_err-put_row.result e.0 (λ f. ByCause Never (MayRepeat c.args.defs.now c.args.row.now) (LacksPlace c.args.at_end c.args.self.now.rows.file c.args.row.now (g.F.Files.holds c.args.files.now)) f) e.1
    (subst (λ (f : KeyedFault). ByCause Never (MayRepeat c.args.defs.now c.args.row.now) (LacksPlace c.args.at_end c.args.self.now.rows.file c.args.row.now (g.F.Files.holds c.args.files.now)) f) (sym e.2) (tree_cause Never (MayRepeat c.args.defs.now c.args.row.now) (LacksPlace c.args.at_end c.args.self.now.rows.file c.args.row.now (g.F.Files.holds c.args.files.now)) c.in_err-put_row.field-0.0))
