use Rattle.std.proofs.Common.{◌⊎◌, ◌∙◌, ap, sym, subst, refl}
use Rattle.std.specs.Prelude.{IfErr, string_bytes}
use Rattle.std.proofs.lemmas.Result.{err_from_is_err_and}
use Rattle.myi_base.proofs.CallerLemmas.{told_more}
use Rattle.myi_defs.proofs.CallerLemmas.{sound}
use Rattle.myi_pair.proofs.CallerLemmas.{clean_where_none}
use Rattle.myi_repair.specs.Names.{FourNames, names_for}
use Rattle.myi_repair.proofs.CallerLemmas.{apart_of, told_and}
use Rattle.myi_order.specs.Faults.{CutsOff}
use Rattle.myi_order.specs.Analyzing.{IsRefused, KeepsBoth}
use Rattle.myi_order.proofs.AnalyzeLaws.{not_opened, is_opened, analyzed_by, both_kept, told_from, on_err}
use Rattle.myi_order.proofs.analyzing.analyze_clean.Goals as goal

pub returns-in_err-opened-clause-refused : goal.returns-in_err-opened-clause-refused
returns-in_err-opened-clause-refused g c =
    let old = g.F.Files.holds c.args.files.now in
    let new = g.F.Files.holds c.open_table.new.files in
    let e = err_from_is_err_and c.from_residual-in_err-opened.result c.from_residual-in_err-opened.ensures.1 in
    subst (λ r. IfErr r (λ f. CutsOff f ⊎ IsRefused c.args.name.now f old new)) (sym e.1)
    (not_opened c.args.name.now c.as_str.result.now c.as_str-2.result.now old new _ e.0
    (c.as_str.ensures.value ∙ ap (λ (u : FourNames). u.index) c.in_ok-table.ensures) (c.as_str-2.ensures.value ∙ ap (λ (u : FourNames). u.rows) c.in_ok-table.ensures) e.2 c.open_table.ensures.holds c.in_err-opened.ensures.refused)

pub store-requires-clause-apart : goal.store-requires-clause-apart
store-requires-clause-apart g c κs within = apart_of _ c.args.name.now c.in_ok-table.ensures

pub store-requires-clause-sound : goal.store-requires-clause-sound
store-requires-clause-sound g c κs within = sound c.in_ok-opened.opened.defs c.in_ok-opened.ensures.defs

pub returns-in_err-store-clause-kept : goal.returns-in_err-store-clause-kept
returns-in_err-store-clause-kept g c =
    let name = c.args.name.now in
    on_err c.from_residual-in_err-store.result _
    (told_from _ _ _ (KeepsBoth name) (c.count_trees.ensures.holds ∙ c.open_table.ensures.holds)
    (told_more _ _ _ _ (told_and _ _ _ _ c.in_err-store.ensures.kept c.store.ensures.others) (λ m n held both.
    both_kept name _ _ m n (apart_of (names_for name) name refl) (ap (λ (u : FourNames). u.index) c.in_ok-table.ensures) (ap (λ (u : FourNames). u.new_index) c.in_ok-table.ensures) both.0 both.1)))

pub returns-clause-analyzed : goal.returns-clause-analyzed
returns-clause-analyzed g c =
    let name = c.args.name.now in
    let d = c.in_ok-opened.opened.defs in
    let size = c.in_ok-opened.opened.length in
    let rows_is = ap (λ (u : FourNames). u.rows) c.in_ok-table.ensures in
    let index_is = ap (λ (u : FourNames). u.index) c.in_ok-table.ensures in
    told_more _ _ _ _ (told_from _ _ _ _ (c.count_trees.ensures.holds ∙ c.open_table.ensures.holds) c.in_ok-store.ensures.stored) (λ m n held put.
    let opened = is_opened name c.as_str.result.now c.as_str-2.result.now d size m (c.as_str.ensures.value ∙ index_is) (c.as_str-2.ensures.value ∙ rows_is) (c.in_ok-opened.ensures.table m held) (c.requires.clean m held) in
    analyzed_by name (string_bytes c.in_ok-table.table.index) (string_bytes c.in_ok-table.table.new_index) d size c.in_ok-counted.counted m n (sound d c.in_ok-opened.ensures.defs) (λ x read. c.definitions_are_sound.ensures.raw x d read)
    c.in_ok-counted.ensures.few c.analyzed_tables_are_clean.ensures index_is (ap (λ (u : FourNames). u.new_index) c.in_ok-table.ensures) opened
    (c.in_ok-counted.ensures.counted m (c.open_table.ensures.holds ∙ held) opened.index (ap m (c.as_str-3.ensures.value ∙ index_is) ∙ opened.there) opened.read opened.data_file (clean_where_none d opened.data_file opened.index opened.read opened.none)) put)
