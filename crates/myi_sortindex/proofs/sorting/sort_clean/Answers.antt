use Rattle.std.proofs.Common.{◌⊎◌, ◌∙◌, ap, sym, subst, refl}
use Rattle.std.specs.Prelude.{IfErr}
use Rattle.std.proofs.lemmas.Result.{err_from_is_err_and}
use Rattle.myi_repair.specs.Names.{FourNames, names_for}
use Rattle.myi_repair.proofs.CallerLemmas.{apart_of}
use Rattle.myi_sortindex.specs.Refusals.{CutsOff, IsRefused}
use Rattle.myi_sortindex.proofs.CallLaws.{not_opened, is_opened, clean_index, sorts, both_kept, ok_sorts, err_keeps, err_refused}
use Rattle.myi_sortindex.proofs.sorting.sort_clean.Goals as goal

pub returns-in_err-opened-clause-refused : goal.returns-in_err-opened-clause-refused
returns-in_err-opened-clause-refused g c =
    let old = g.F.Files.holds c.args.files.now in
    let new = g.F.Files.holds c.open_table.new.files in
    let e = err_from_is_err_and c.from_residual-in_err-opened.result c.from_residual-in_err-opened.ensures.1 in
    subst (λ r. IfErr r (λ f. CutsOff f ⊎ IsRefused c.args.name.now f old new)) (sym e.1)
    (not_opened c.args.name.now c.as_str-index.result.now c.as_str-rows.result.now old new _ e.0
    (c.as_str-index.ensures.value ∙ ap (λ (u : FourNames). u.index) c.in_ok-table.ensures) (c.as_str-rows.ensures.value ∙ ap (λ (u : FourNames). u.rows) c.in_ok-table.ensures) e.2 c.open_table.ensures.holds c.in_err-opened.ensures.refused)

pub replace_index-requires-clause-apart : goal.replace_index-requires-clause-apart
replace_index-requires-clause-apart g c κs within = λ same.
    (apart_of _ c.args.name.now c.in_ok-table.ensures).index-new_index (sym c.as_str-index.ensures.value ∙ same ∙ c.as_str.ensures.value)

pub replace_index-requires-clause-clean : goal.replace_index-requires-clause-clean
replace_index-requires-clause-clean g c κs within = λ m held.
    let name = c.args.name.now in
    let d = c.in_ok-opened.opened.defs in
    let before = sym c.open_table.ensures.holds ∙ held in
    let index_is = c.as_str-index.ensures.value ∙ ap (λ (u : FourNames). u.index) c.in_ok-table.ensures in
    let rows_is = c.as_str-rows.ensures.value ∙ ap (λ (u : FourNames). u.rows) c.in_ok-table.ensures in
    clean_index name _ d m index_is (is_opened name _ _ d _ m index_is rows_is (c.in_ok-opened.ensures.table m before) (c.requires.clean m before))

pub returns-clause-sorted : goal.returns-clause-sorted
returns-clause-sorted g c =
    let name = c.args.name.now in
    let d = c.in_ok-opened.opened.defs in
    let index_is = c.as_str-index.ensures.value ∙ ap (λ (u : FourNames). u.index) c.in_ok-table.ensures in
    let rows_is = c.as_str-rows.ensures.value ∙ ap (λ (u : FourNames). u.rows) c.in_ok-table.ensures in
    let working_is = c.as_str.ensures.value ∙ ap (λ (u : FourNames). u.new_index) c.in_ok-table.ensures in
    ok_sorts c.replace_index.result name _ _ d _ _ _ c.open_table.ensures.holds c.replace_index.ensures.replaced c.replace_index.ensures.others
    (λ pages m n held put others. sorts name _ _ d pages m n (apart_of (names_for name) name refl) index_is working_is (is_opened name _ _ d _ m index_is rows_is (c.in_ok-opened.ensures.table m held) (c.requires.clean m held)) put others)

pub returns-clause-kept : goal.returns-clause-kept
returns-clause-kept g c =
    let name = c.args.name.now in
    let index_is = c.as_str-index.ensures.value ∙ ap (λ (u : FourNames). u.index) c.in_ok-table.ensures in
    let working_is = c.as_str.ensures.value ∙ ap (λ (u : FourNames). u.new_index) c.in_ok-table.ensures in
    err_keeps c.replace_index.result _ _ _ _ _ _ c.open_table.ensures.holds c.replace_index.ensures.kept c.replace_index.ensures.others
    (λ m n kept others. both_kept name _ _ m n (apart_of (names_for name) name refl) index_is working_is kept others)

pub returns-clause-refused : goal.returns-clause-refused
returns-clause-refused g c =
    let name = c.args.name.now in
    err_refused c.replace_index.result name _ _ _ _ c.open_table.ensures.holds c.replace_index.ensures.others c.replace_index.ensures.cut
