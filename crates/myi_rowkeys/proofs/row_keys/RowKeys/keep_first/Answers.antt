use Rattle.std.proofs.Common.{arith, length, ap, sym, subst, ◌+◌, ◌∙◌, List, map, []}
use Rattle.std.specs.Prelude.{Bool}
use Rattle.std.proofs.lemmas.Result.{IfOk-weaker}
use Rattle.myi_keylist.specs.Columns.{AreColumns, key_by_number}
use Rattle.myi_keylist.specs.Classes.{AreBelow, class_flags, share_class, picked}
use Rattle.myi_keylist.proofs.CallerLemmas.{columns_below, columns_keep}
use Rattle.myi_rowkeys.specs.TableKeys.{unique_keys}
use Rattle.myi_rowkeys.specs.RowLists.{no_row, AreNumberLists}
use Rattle.myi_rowkeys.proofs.ColumnLemmas.{flags_long}
use Rattle.myi_rowkeys.proofs.row_keys.RowKeys.keep_first.Goals as goal

pub keep_first-requires : goal.keep_first-requires
keep_first-requires c =
    let given = c.requires.lists in
    let lists = c.deref.ensures.value ∙ c.self.view_is in
    let are = c.in_ok-columns.ensures.columns given.0 given.1 (subst (AreNumberLists c.args.defs.now given.0) (sym lists) given.2) in
    subst (AreBelow (c.in_ok-columns.last + 1)) (sym c.deref-2.ensures.value) (columns_below _ c.args.rows 0 c.in_ok-columns.last (c.in_ok-columns.last + 1) c.in_ok-columns.columns.items are (omega arith))

pub returns-clause-long : goal.returns-clause-long
returns-clause-long c = IfOk-weaker c.keep_first.result _ _ (λ flags is. ap (λ (fs : List Bool). length fs) is ∙ flags_long (share_class c.deref-2.result.now) [] 0 c.args.rows) c.keep_first.ensures

pub returns-clause-kept : goal.returns-clause-kept
returns-clause-kept c = IfOk-weaker c.keep_first.result _ _ (λ flags is all count are.
    let lists = c.deref.ensures.value ∙ c.self.view_is in
    let columns = c.in_ok-columns.ensures.columns all count (subst (AreNumberLists c.args.defs.now all) (sym lists) are) in
    let here : AreColumns (map (key_by_number all no_row) (unique_keys c.args.defs.now)) (length all) 0 c.in_ok-columns.last c.deref-2.result.now =
    subst (AreColumns (map (key_by_number all no_row) (unique_keys c.args.defs.now)) (length all) 0 c.in_ok-columns.last) (sym c.deref-2.ensures.value) (subst (λ n. AreColumns (map (key_by_number all no_row) (unique_keys c.args.defs.now)) n 0 c.in_ok-columns.last c.in_ok-columns.columns.items) (sym count) columns) in
    ap (λ fs. picked fs all) (is ∙ ap (class_flags c.deref-2.result.now) (sym count)) ∙ columns_keep (unique_keys c.args.defs.now) all no_row 0 c.in_ok-columns.last c.deref-2.result.now here) c.keep_first.ensures
