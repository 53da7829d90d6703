use Rattle.std.proofs.Common.{◌∙◌, Err, inr, refl, sym, ap, subst, arith}
use Rattle.std.proofs.lemmas.Result.{IfOk-weaker, err_from_is_err_and}
use Rattle.myi_base.proofs.CallerLemmas.{told_more}
use Rattle.myi_check.specs.Checking.{Finds}
use Rattle.myi_repair.specs.Names.{FourNames, names_of}
use Rattle.myi_repair.proofs.CallerLemmas.{apart_of}
use Rattle.myi_order.specs.declared.fault.OrderFault.TheVariants.{Damaged}
use Rattle.myi_order.specs.Sorting.{IsRefused}
use Rattle.myi_order.proofs.AnalyzeLaws.{begins, is_opened, told_from}
use Rattle.myi_order.proofs.SortLaws.{not_opened, rows_opened, no_key, not_checked, checked_before, damaged, leaves_ordered, sorted_or_kept, none_first}
use Rattle.myi_order.proofs.EndLaws.{file_of, no_file, damage_no_file, rose_later, refused_ends, all_kept, cut_off_ends, cut_off_later}
use Rattle.myi_order.proofs.KeyLaws.{err_lacks, memory_lacks, table_lacks, damaged_lacks, cut_off_lacks, missing_lacks}
use Rattle.myi_order.proofs.sorting.sort_records.Goals as goal

pub returns-in_err-opened-clause-ends : goal.returns-in_err-opened-clause-ends
returns-in_err-opened-clause-ends g c =
    let name = c.args.name.now in
    let old = g.F.Files.holds c.args.files.now in
    let new = g.F.Files.holds c.open_table.new.files in
    let index_is = c.as_str.ensures.value ∙ ap (λ (u : FourNames). u.index) c.in_ok-table.ensures in
    let rows_is = c.as_str-2.ensures.value ∙ ap (λ (u : FourNames). u.rows) c.in_ok-table.ensures in
    let e = err_from_is_err_and c.from_residual-in_err-opened.result c.from_residual-in_err-opened.ensures.1 in
    refused_ends name c.args.key old new _ _ e.0 c.from_residual-in_err-opened.result e.1
    (not_opened name c.as_str.result.now c.as_str-2.result.now c.args.key old new _ e.0 index_is rows_is e.2 c.open_table.ensures.holds c.in_err-opened.ensures.refused) c.open_table.ensures.holds c.in_err-opened.ensures.cause.later
    (λ file. c.in_err-opened.ensures.cause.cause (ap Err (file_of _ (sym e.2 ∙ file))))

pub returns-then-not-has_key-clause-ends : goal.returns-then-not-has_key-clause-ends
returns-then-not-has_key-clause-ends g c =
    let name = c.args.name.now in
    let old = g.F.Files.holds c.args.files.now in
    let new = g.F.Files.holds c.open_table.new.files in
    let d = c.in_ok-opened.opened.defs in
    let index_is = c.as_str.ensures.value ∙ ap (λ (u : FourNames). u.index) c.in_ok-table.ensures in
    let rows_is = c.as_str-2.ensures.value ∙ ap (λ (u : FourNames). u.rows) c.in_ok-table.ensures in
    refused_ends name c.args.key old new _ _ c.no_key.result (Err c.no_key.result) refl
    (inr (subst (λ f. IsRefused name c.args.key f old new) (sym c.no_key.ensures) (no_key name c.as_str.result.now c.as_str-2.result.now d c.in_ok-opened.opened.length c.args.key old new index_is rows_is c.in_ok-opened.ensures.table (sym c.has_key.ensures ∙ c.if-not-has_key.true) c.open_table.ensures.holds)))
    c.open_table.ensures.holds c.in_ok-opened.ensures.cause.later (λ file. absurd (no_file _ (sym c.no_key.ensures ∙ file)))

pub returns-in_err-found-clause-ends : goal.returns-in_err-found-clause-ends
returns-in_err-found-clause-ends g c =
    let name = c.args.name.now in
    let old = g.F.Files.holds c.args.files.now in
    let new = g.F.Files.holds c.check.new.files in
    let same = c.check.ensures.holds ∙ c.open_table.ensures.holds in
    let e = err_from_is_err_and c.from_residual-in_err-found.result c.from_residual-in_err-found.ensures.1 in
    refused_ends name c.args.key old new _ _ e.0 c.from_residual-in_err-found.result e.1
    (not_checked name c.args.key old new _ e.0 e.2 same (checked_before name old (g.F.Files.holds c.open_table.new.files) _ c.open_table.ensures.holds c.in_err-found.ensures.refused)) same (omega (arith, c.in_ok-opened.ensures.cause.later, c.in_err-found.ensures.cause.later))
    (λ file. rose_later _ _ _ c.in_ok-opened.ensures.cause.later (c.in_err-found.ensures.cause.cause (ap Err (file_of _ (sym e.2 ∙ file)))))

pub returns-in-Some-clause-ends : goal.returns-in-Some-clause-ends
returns-in-Some-clause-ends g c =
    let name = c.args.name.now in
    let old = g.F.Files.holds c.args.files.now in
    let new = g.F.Files.holds c.check.new.files in
    let d = c.in_ok-opened.opened.defs in
    let found = c.in-Some.finding.now in
    let index_is = c.as_str.ensures.value ∙ ap (λ (u : FourNames). u.index) c.in_ok-table.ensures in
    let rows_is = c.as_str-2.ensures.value ∙ ap (λ (u : FourNames). u.rows) c.in_ok-table.ensures in
    let same = c.check.ensures.holds ∙ c.open_table.ensures.holds in
    let first = begins c.deref.result.now found c.in-Some.ensures.value in
    let refused : IsRefused name c.args.key (Damaged found) old new = record {
      reason = λ m told. damaged name c.as_str.result.now c.as_str-2.result.now d c.in_ok-opened.opened.length c.args.key found first.0 m index_is rows_is (c.in_ok-opened.ensures.table m told) (sym c.has_key.ensures ∙ c.if-not-has_key.false)
          (subst (λ xs. Finds name xs m) (sym c.deref.ensures.value ∙ first.1) (c.in_ok-found.ensures.findings m (c.open_table.ensures.holds ∙ told)));
      same = same;
    } in
    refused_ends name c.args.key old new _ _ (Damaged found) (Err (Damaged found)) refl (inr refused) same (omega (arith, c.in_ok-opened.ensures.cause.later, c.in_ok-found.ensures.cause.later)) (λ file. absurd (damage_no_file found file))

pub sort_opened-requires-clause-apart : goal.sort_opened-requires-clause-apart
sort_opened-requires-clause-apart g c κs within = apart_of _ c.args.name.now c.in_ok-table.ensures

pub sort_opened-requires-clause-long : goal.sort_opened-requires-clause-long
sort_opened-requires-clause-long g c κs within m held =
    let index_is = ap (λ (u : FourNames). u.index) c.in_ok-table.ensures in
    let rows_is = ap (λ (u : FourNames). u.rows) c.in_ok-table.ensures in
    let was = sym (c.check.ensures.holds ∙ c.open_table.ensures.holds) ∙ held in
    let opened = rows_opened c.args.name.now c.as_str.result.now c.as_str-2.result.now c.in_ok-opened.opened.defs c.in_ok-opened.opened.length m (c.as_str.ensures.value ∙ index_is) (c.as_str-2.ensures.value ∙ rows_is) (c.in_ok-opened.ensures.table m was) in
    (opened.0, ap m rows_is ∙ opened.1, opened.2)

pub returns-clause-ordered : goal.returns-clause-ordered
returns-clause-ordered g c =
    let name = c.args.name.now in
    let d = c.in_ok-opened.opened.defs in
    let size = c.in_ok-opened.opened.length in
    let index_is = c.as_str.ensures.value ∙ ap (λ (u : FourNames). u.index) c.in_ok-table.ensures in
    let rows_is = c.as_str-2.ensures.value ∙ ap (λ (u : FourNames). u.rows) c.in_ok-table.ensures in
    let none = sym c.deref.ensures.value ∙ none_first c.deref.result.now c.in_default.ensures.value in
    IfOk-weaker c.sort_opened.result _ _ (λ said sorts. told_more _ _ _ _ (told_from _ _ _ _ (c.check.ensures.holds ∙ c.open_table.ensures.holds) sorts) (λ m n held is.
    let opened = is_opened name c.as_str.result.now c.as_str-2.result.now d size m index_is rows_is (c.in_ok-opened.ensures.table m held) (subst (λ xs. Finds name xs m) none (c.in_ok-found.ensures.findings m (c.open_table.ensures.holds ∙ held))) in
    leaves_ordered name (names_of c.in_ok-table.table) d size c.args.key c.args.now said m n c.in_ok-table.ensures c.in_ok-opened.ensures.defs c.in_ok-opened.ensures.header (g.met.F.Files.told_bytes c.args.files.now m held) (omega arith)
    c.rebuilt_files_are_no_longer.ensures.some c.rebuilt_files_are_no_longer.ensures.less c.rebuilt_files_are_a_table.ensures.table opened (sym c.has_key.ensures ∙ c.if-not-has_key.false) is)) c.sort_opened.ensures.sorted

pub returns-clause-files : goal.returns-clause-files
returns-clause-files g c =
    let name = c.args.name.now in
    let d = c.in_ok-opened.opened.defs in
    let size = c.in_ok-opened.opened.length in
    let index_is = c.as_str.ensures.value ∙ ap (λ (u : FourNames). u.index) c.in_ok-table.ensures in
    let rows_is = c.as_str-2.ensures.value ∙ ap (λ (u : FourNames). u.rows) c.in_ok-table.ensures in
    let none = sym c.deref.ensures.value ∙ none_first c.deref.result.now c.in_default.ensures.value in
    told_more _ _ _ _ (told_from _ _ _ _ (c.check.ensures.holds ∙ c.open_table.ensures.holds) c.sort_opened.ensures.whole) (λ m n held part.
    let opened = is_opened name c.as_str.result.now c.as_str-2.result.now d size m index_is rows_is (c.in_ok-opened.ensures.table m held) (subst (λ xs. Finds name xs m) none (c.in_ok-found.ensures.findings m (c.open_table.ensures.holds ∙ held))) in
    sorted_or_kept name (names_of c.in_ok-table.table) d size c.args.key c.args.now m n c.in_ok-table.ensures opened (sym c.has_key.ensures ∙ c.if-not-has_key.false) part)

pub returns-clause-ends : goal.returns-clause-ends
returns-clause-ends g c =
    let t = names_of c.in_ok-table.table in
    cut_off_ends t c.args.name.now c.args.key _ _ _ _ c.sort_opened.result c.in_ok-table.ensures
    (cut_off_later t _ _ _ _ _ _ c.sort_opened.result (all_kept t _ _ (c.check.ensures.holds ∙ c.open_table.ensures.holds)) (omega (arith, c.in_ok-opened.ensures.cause.later, c.in_ok-found.ensures.cause.later)) c.sort_opened.ensures.ends)

pub returns-in_err-table-clause-keys : goal.returns-in_err-table-clause-keys
returns-in_err-table-clause-keys g c =
    let e = err_from_is_err_and c.from_residual.result c.from_residual.ensures.1 in
    err_lacks c.args.key c.from_residual.result e.0 e.1 (memory_lacks c.args.key e.0 e.2)

pub returns-in_err-opened-clause-keys : goal.returns-in_err-opened-clause-keys
returns-in_err-opened-clause-keys g c =
    let e = err_from_is_err_and c.from_residual-in_err-opened.result c.from_residual-in_err-opened.ensures.1 in
    err_lacks c.args.key c.from_residual-in_err-opened.result e.0 e.1 (table_lacks c.args.key _ e.0 e.2)

pub returns-then-not-has_key-clause-keys : goal.returns-then-not-has_key-clause-keys
returns-then-not-has_key-clause-keys g c = missing_lacks c.in_ok-opened.opened.defs c.args.key c.no_key.result c.no_key.ensures (sym c.has_key.ensures ∙ c.if-not-has_key.true)

pub returns-in_err-found-clause-keys : goal.returns-in_err-found-clause-keys
returns-in_err-found-clause-keys g c =
    let e = err_from_is_err_and c.from_residual-in_err-found.result c.from_residual-in_err-found.ensures.1 in
    err_lacks c.args.key c.from_residual-in_err-found.result e.0 e.1 (table_lacks c.args.key _ e.0 e.2)

pub returns-in-Some-clause-keys : goal.returns-in-Some-clause-keys
returns-in-Some-clause-keys g c = damaged_lacks c.args.key c.in-Some.finding.now

pub returns-clause-keys : goal.returns-clause-keys
returns-clause-keys g c = cut_off_lacks c.args.key c.sort_opened.result c.sort_opened.ensures.ends.reason
