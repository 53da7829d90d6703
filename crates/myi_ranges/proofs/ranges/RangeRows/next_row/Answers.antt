use Rattle.std.proofs.Common.{Option, sym, ap, subst, ◌∙◌}
use Rattle.std.proofs.lemmas.Result.{err_from_is_err_and}
use Rattle.myi_base.specs.Holding.{Holding, IfTold, Told}
use Rattle.myi_keys.specs.Comparing.{key_front}
use Rattle.myi_keylist.specs.PairOrder.{pair_with}
use Rattle.myi_search.specs.Cursor.{CursorAt}
use Rattle.myi_state.specs.declared.counts.Counts.{Counts}
use Rattle.myi_state.specs.State.{TableState}
use Rattle.myi_tablestate.specs.Matching.{stays_below}
use Rattle.myi_ranges.specs.declared.fault.RangeFault.{RangeFault}
use Rattle.myi_ranges.specs.declared.ranges.RangeRows.{RangeRows}
use Rattle.myi_ranges.specs.declared.ranges.Reached.TheVariants.{Behind}
use Rattle.myi_ranges.specs.Ranges.{NeverDamaged, HasTable, FailsInFew, position_within}
use Rattle.myi_ranges.proofs.AnswerLemmas.{Comes, there_after, long_after, answer_none, answer_past, answer_row, table_again, ahead_end, ahead_behind, few_none, few_row, failed_none, failed_row, never_index, if_err}
use Rattle.myi_ranges.proofs.CostLemmas.{one_behind}
use Rattle.myi_ranges.proofs.ranges.RangeRows.next_row.Goals as goal

pub returns-in_err-cursor-clause-never : goal.returns-in_err-cursor-clause-never
returns-in_err-cursor-clause-never g c =
    let told = g.F.Files.holds c.args.files.now in
    let e = err_from_is_err_and c.from_residual.result c.from_residual.ensures.1 in
    if_err c.from_residual.result e.0 (NeverDamaged told) e.1
    (subst (λ (f : RangeFault). NeverDamaged told f) (sym e.2) (never_index told c.args.defs.now c.args.self.now c.args.trees.now c.args.rows.now.file c.in_err-cursor.field-0.0 c.requires.table c.in_err-cursor.ensures.never))

pub returns-in_default-clause-row : goal.returns-in_default-clause-row
returns-in_default-clause-row g c =
    answer_none (g.F.Files.holds c.args.files.now) c.args.defs.now c.args.self.now c.next_pair.new.self c.args.trees.now c.args.rows.now.file (subst (λ (o : Option CursorAt). Comes (g.F.Files.holds c.args.files.now) c.args.trees.now c.args.self.now o) c.in_default.is c.in_ok-cursor.ensures.next)

pub returns-then-not-may_come-clause-row : goal.returns-then-not-may_come-clause-row
returns-then-not-may_come-clause-row g c =
    answer_past (g.F.Files.holds c.args.files.now) c.args.defs.now c.args.self.now c.next_pair.new.self c.args.trees.now c.args.rows.now.file c.in-Some.cursor (pair_with (key_front c.pair_of-pointer.result.0.now) c.pair_of-pointer.result.1) (ap (λ (r : RangeRows). stays_below r.to (key_front c.pair_of-pointer.result.0.now)) (sym c.in_ok-cursor.ensures.end) ∙ sym c.may_come.ensures ∙ c.if-not-may_come.true) (subst (λ (o : Option CursorAt). Comes (g.F.Files.holds c.args.files.now) c.args.trees.now c.args.self.now o) c.in-Some.is c.in_ok-cursor.ensures.next) c.pair_of-pointer.ensures

pub row_at-requires-clause-long : goal.row_at-requires-clause-long
row_at-requires-clause-long g c κs within =
    long_after (g.F.Files.holds c.args.files.now) (g.F.Files.holds c.next_pair.new.files) c.args.defs.now c.args.self.now c.args.trees.now c.next_pair.new.trees c.args.rows.now.file c.requires.names c.in_ok-cursor.ensures.searched c.requires.table

pub row_at-requires-clause-there : goal.row_at-requires-clause-there
row_at-requires-clause-there g c κs within =
    there_after (g.F.Files.holds c.args.files.now) (g.F.Files.holds c.next_pair.new.files) c.args.defs.now c.args.self.now c.args.trees.now c.next_pair.new.trees c.args.rows.now.file c.in-Some.cursor (pair_with (key_front c.pair_of-pointer.result.0.now) c.pair_of-pointer.result.1) c.position_of-at.result
    c.key_lists_are_in_order.ensures.pointed c.rows_of_states_stand.ensures c.requires.sound c.requires.defs c.requires.names c.in_ok-cursor.ensures.searched c.requires.table (subst (λ (o : Option CursorAt). Comes (g.F.Files.holds c.args.files.now) c.args.trees.now c.args.self.now o) c.in-Some.is c.in_ok-cursor.ensures.next) c.pair_of-pointer.ensures (c.position_of-at.ensures ∙ ap (λ (n : Counts). position_within c.args.defs.now n.length c.pair_of-pointer.result.1) c.counts.ensures)

pub returns-clause-row : goal.returns-clause-row
returns-clause-row g c =
    answer_row (g.F.Files.holds c.args.files.now) (g.F.Files.holds c.next_pair.new.files) c.args.defs.now c.args.self.now c.next_pair.new.self c.args.trees.now c.next_pair.new.trees c.args.rows.now.file c.in-Some.cursor (pair_with (key_front c.pair_of-pointer.result.0.now) c.pair_of-pointer.result.1) c.position_of-at.result c.in_ok-row.row
    c.key_lists_are_in_order.ensures.pointed c.rows_of_states_stand.ensures c.requires.sound c.requires.defs c.requires.names c.in_ok-cursor.ensures.searched c.in_ok-cursor.ensures.end (subst (λ (o : Option CursorAt). Comes (g.F.Files.holds c.args.files.now) c.args.trees.now c.args.self.now o) c.in-Some.is c.in_ok-cursor.ensures.next) c.pair_of-pointer.ensures (ap (λ (r : RangeRows). stays_below r.to (key_front c.pair_of-pointer.result.0.now)) (sym c.in_ok-cursor.ensures.end) ∙ sym c.may_come.ensures ∙ c.if-not-may_come.false) (c.position_of-at.ensures ∙ ap (λ (n : Counts). position_within c.args.defs.now n.length c.pair_of-pointer.result.1) c.counts.ensures) c.in_ok-row.ensures.told

pub returns-in_default-clause-few : goal.returns-in_default-clause-few
returns-in_default-clause-few g c =
    few_none (g.F.Files.holds c.args.files.now) c.args.defs.now c.args.self.now c.args.trees.now c.args.rows.now.file (g.F.Files.reads c.args.files.now) (g.F.Files.reads c.next_pair.new.files) c.in_ok-cursor.ensures.few

pub returns-then-not-may_come-clause-few : goal.returns-then-not-may_come-clause-few
returns-then-not-may_come-clause-few g c =
    few_none (g.F.Files.holds c.args.files.now) c.args.defs.now c.args.self.now c.args.trees.now c.args.rows.now.file (g.F.Files.reads c.args.files.now) (g.F.Files.reads c.next_pair.new.files) c.in_ok-cursor.ensures.few

pub returns-clause-few : goal.returns-clause-few
returns-clause-few g c =
    few_row (g.F.Files.holds c.args.files.now) (g.F.Files.holds c.next_pair.new.files) c.args.defs.now c.args.self.now c.args.trees.now c.next_pair.new.trees c.args.rows.now.file c.in-Some.cursor (pair_with (key_front c.pair_of-pointer.result.0.now) c.pair_of-pointer.result.1) c.position_of-at.result c.in_ok-row.row (g.F.Files.reads c.args.files.now) (g.F.Files.reads c.next_pair.new.files) (g.F.Files.reads c.row_at.new.files)
    c.key_lists_are_in_order.ensures.pointed c.rows_of_states_stand.ensures c.requires.sound c.requires.defs c.requires.names c.in_ok-cursor.ensures.searched (subst (λ (o : Option CursorAt). Comes (g.F.Files.holds c.args.files.now) c.args.trees.now c.args.self.now o) c.in-Some.is c.in_ok-cursor.ensures.next) c.pair_of-pointer.ensures (c.position_of-at.ensures ∙ ap (λ (n : Counts). position_within c.args.defs.now n.length c.pair_of-pointer.result.1) c.counts.ensures) c.in_ok-cursor.ensures.few c.row_at.ensures.few

pub returns-in_err-cursor-clause-again : goal.returns-in_err-cursor-clause-again
returns-in_err-cursor-clause-again g c =
    table_again (g.F.Files.holds c.args.files.now) (g.F.Files.holds c.next_pair.new.files) c.args.defs.now c.args.self.now c.next_pair.new.self c.args.trees.now c.next_pair.new.trees c.args.rows.now.file c.requires.names c.next_pair.ensures.searched (ap (λ (r : RangeRows). r.key) c.next_pair.ensures.end)
    (ahead_end (g.F.Files.holds c.args.files.now) c.args.defs.now c.args.self.now c.next_pair.new.self c.args.trees.now c.args.rows.now.file (ap (λ (r : RangeRows). r.reached) c.next_pair.ensures.end))

pub returns-in_default-clause-again : goal.returns-in_default-clause-again
returns-in_default-clause-again g c =
    table_again (g.F.Files.holds c.args.files.now) (g.F.Files.holds c.next_pair.new.files) c.args.defs.now c.args.self.now c.next_pair.new.self c.args.trees.now c.next_pair.new.trees c.args.rows.now.file c.requires.names c.next_pair.ensures.searched (ap (λ (r : RangeRows). r.key) c.next_pair.ensures.end)
    (ahead_end (g.F.Files.holds c.args.files.now) c.args.defs.now c.args.self.now c.next_pair.new.self c.args.trees.now c.args.rows.now.file (ap (λ (r : RangeRows). r.reached) c.next_pair.ensures.end))

pub returns-then-not-may_come-clause-again : goal.returns-then-not-may_come-clause-again
returns-then-not-may_come-clause-again g c =
    table_again (g.F.Files.holds c.args.files.now) (g.F.Files.holds c.next_pair.new.files) c.args.defs.now c.args.self.now c.next_pair.new.self c.args.trees.now c.next_pair.new.trees c.args.rows.now.file c.requires.names c.next_pair.ensures.searched (ap (λ (r : RangeRows). r.key) c.next_pair.ensures.end)
    (ahead_end (g.F.Files.holds c.args.files.now) c.args.defs.now c.args.self.now c.next_pair.new.self c.args.trees.now c.args.rows.now.file (ap (λ (r : RangeRows). r.reached) c.next_pair.ensures.end))

pub returns-in_err-row-clause-again : goal.returns-in_err-row-clause-again
returns-in_err-row-clause-again g c =
    subst (λ (o : Option Holding). Told (g.F.Files.holds c.args.files.now) o (λ m n. (s : TableState) → HasTable c.args.defs.now c.args.self.now c.args.trees.now c.args.rows.now.file s m → HasTable c.args.defs.now c.next_pair.new.self c.next_pair.new.trees c.args.rows.now.file s n)) (sym c.row_at.ensures.holds)
    (table_again (g.F.Files.holds c.args.files.now) (g.F.Files.holds c.next_pair.new.files) c.args.defs.now c.args.self.now c.next_pair.new.self c.args.trees.now c.next_pair.new.trees c.args.rows.now.file c.requires.names c.next_pair.ensures.searched (ap (λ (r : RangeRows). r.key) c.next_pair.ensures.end)
    (ahead_end (g.F.Files.holds c.args.files.now) c.args.defs.now c.args.self.now c.next_pair.new.self c.args.trees.now c.args.rows.now.file (ap (λ (r : RangeRows). r.reached) c.next_pair.ensures.end)))

pub returns-clause-again : goal.returns-clause-again
returns-clause-again g c =
    let new : RangeRows = record c.next_pair.new.self { reached = Behind c.in-Some.cursor } in
    subst (λ (o : Option Holding). Told (g.F.Files.holds c.args.files.now) o (λ m n. (s : TableState) → HasTable c.args.defs.now c.args.self.now c.args.trees.now c.args.rows.now.file s m → HasTable c.args.defs.now new c.next_pair.new.trees c.args.rows.now.file s n)) (sym c.row_at.ensures.holds)
    (table_again (g.F.Files.holds c.args.files.now) (g.F.Files.holds c.next_pair.new.files) c.args.defs.now c.args.self.now new c.args.trees.now c.next_pair.new.trees c.args.rows.now.file c.requires.names c.next_pair.ensures.searched (ap (λ (r : RangeRows). r.key) c.next_pair.ensures.end)
    (ahead_behind (g.F.Files.holds c.args.files.now) c.args.defs.now c.args.self.now c.args.trees.now c.args.rows.now.file c.in-Some.cursor (subst (λ (o : Option CursorAt). Comes (g.F.Files.holds c.args.files.now) c.args.trees.now c.args.self.now o) c.in-Some.is c.in_ok-cursor.ensures.next)))

pub returns-clause-onward : goal.returns-clause-onward
returns-clause-onward g c = one_behind c.in-Some.cursor.ahead

pub returns-in_err-cursor-clause-failed : goal.returns-in_err-cursor-clause-failed
returns-in_err-cursor-clause-failed g c =
    let told = g.F.Files.holds c.args.files.now in
    let before = g.F.Files.reads c.args.files.now in
    let after = g.F.Files.reads c.next_pair.new.files in
    let e = err_from_is_err_and c.from_residual.result c.from_residual.ensures.1 in
    if_err c.from_residual.result e.0 (λ f. IfTold told (λ m. (s : TableState) → HasTable c.args.defs.now c.args.self.now c.args.trees.now c.args.rows.now.file s m → FailsInFew c.args.defs.now s c.args.self.now before after)) e.1
    (failed_none told c.args.defs.now c.args.self.now c.args.trees.now c.args.rows.now.file before after c.in_err-cursor.ensures.few)

pub returns-in_err-row-clause-failed : goal.returns-in_err-row-clause-failed
returns-in_err-row-clause-failed g c =
    let told = g.F.Files.holds c.args.files.now in
    let before = g.F.Files.reads c.args.files.now in
    let after = g.F.Files.reads c.row_at.new.files in
    let e = err_from_is_err_and c.from_residual-in_err-row.result c.from_residual-in_err-row.ensures.1 in
    if_err c.from_residual-in_err-row.result e.0 (λ f. IfTold told (λ m. (s : TableState) → HasTable c.args.defs.now c.args.self.now c.args.trees.now c.args.rows.now.file s m → FailsInFew c.args.defs.now s c.args.self.now before after)) e.1
    (failed_row told (g.F.Files.holds c.next_pair.new.files) c.args.defs.now c.args.self.now c.args.trees.now c.next_pair.new.trees c.args.rows.now.file c.in-Some.cursor (pair_with (key_front c.pair_of-pointer.result.0.now) c.pair_of-pointer.result.1) c.position_of-at.result before (g.F.Files.reads c.next_pair.new.files) after
    c.key_lists_are_in_order.ensures.pointed c.rows_of_states_stand.ensures c.requires.sound c.requires.defs c.requires.names c.in_ok-cursor.ensures.searched (subst (λ (o : Option CursorAt). Comes told c.args.trees.now c.args.self.now o) c.in-Some.is c.in_ok-cursor.ensures.next) c.pair_of-pointer.ensures
    (ap (λ (r : RangeRows). stays_below r.to (key_front c.pair_of-pointer.result.0.now)) (sym c.in_ok-cursor.ensures.end) ∙ sym c.may_come.ensures ∙ c.if-not-may_come.false) (c.position_of-at.ensures ∙ ap (λ (n : Counts). position_within c.args.defs.now n.length c.pair_of-pointer.result.1) c.counts.ensures) c.in_ok-cursor.ensures.few c.row_at.ensures.few)
