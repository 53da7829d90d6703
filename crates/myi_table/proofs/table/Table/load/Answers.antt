use Rattle.std.proofs.Common.{◌≡◌, ◌⊎◌, ◌∙◌, ◌<◌, ◌^◌, List, ℕ, false, None, IfErr, refl, sym, ap, subst, arith}
use Rattle.std.specs.Prelude.{string_bytes}
use Rattle.std.proofs.lemmas.Result.{err_from_is_err_and}
use Rattle.myi_base.specs.Holding.{IfTold}
use Rattle.myi_header.specs.StateOf.{read_state}
use Rattle.myi_opening.specs.Names.{rows_file, index_file}
use Rattle.myi_table.specs.Table.{OpenTable}
use Rattle.myi_table.specs.Loading.{IsLoaded, IsRefused, IsCutOff}
use Rattle.myi_table.proofs.LoadLemmas.{IsRead, AreOpened, AreFirst, read_parts, read_roots, refused_opening, refused_state, opened_by, are_opened, is_tied, is_loaded}
use Rattle.myi_table.proofs.table.Table.load.Goals as goal

pub returns-in_err-opened-clause-refused : goal.returns-in_err-opened-clause-refused
returns-in_err-opened-clause-refused g c =
    let told = g.F.Files.holds c.args.files.now in
    let name = c.args.name.now in
    let e = err_from_is_err_and c.from_residual-in_err-opened.result c.from_residual-in_err-opened.ensures.1 in
    subst (λ r. IfErr r (λ f. IsCutOff f ⊎ IfTold told (IsRefused name f))) (sym e.1)
    (subst (λ f. IsCutOff f ⊎ IfTold told (IsRefused name f)) (sym e.2)
    (refused_opening name c.as_str.result.now c.as_str-2.result.now told c.in_err-opened.field-0.0 (c.as_str.ensures.value ∙ c.in_ok-index.ensures) (c.as_str-2.ensures.value ∙ c.in_ok-data.ensures) c.in_err-opened.ensures.refused))

pub returns-in_err-header-clause-refused : goal.returns-in_err-header-clause-refused
returns-in_err-header-clause-refused g c =
    let told = g.F.Files.holds c.args.files.now in
    let name = c.args.name.now in
    let d = c.in_ok-opened.opened.defs in
    let e = err_from_is_err_and c.from_residual-in_err-header.result c.from_residual-in_err-header.ensures.1 in
    subst (λ r. IfErr r (λ f. IsCutOff f ⊎ IfTold told (IsRefused name f))) (sym e.1)
    (subst (λ f. IsCutOff f ⊎ IfTold told (IsRefused name f)) (sym e.2)
    (refused_state name c.as_str.result.now c.as_str-2.result.now told d c.in_ok-opened.opened.length c.in_err-header.field-0.0 (c.as_str.ensures.value ∙ c.in_ok-index.ensures) (c.as_str-2.ensures.value ∙ c.in_ok-data.ensures) c.in_ok-opened.ensures.table
    (λ other. ap (read_state d) (sym c.as_slice.ensures) ∙ c.in_err-header.ensures.refused other)))

pub open_trees-requires-clause-roots : goal.open_trees-requires-clause-roots
open_trees-requires-clause-roots g c =
    let d = c.in_ok-opened.opened.defs in
    read_roots d d.raw c.in_ok-header.header (read_parts d d.raw c.in_ok-header.header (ap (read_state d) (sym c.as_slice.ensures) ∙ c.in_ok-header.ensures.found))

pub invariant_of-result : goal.invariant_of-result
invariant_of-result g c =
    let d = c.in_ok-opened.opened.defs in
    let t : OpenTable = record { name = string_bytes c.in_ok-from_str.field-0; setup = c.args.setup; header = c.in_ok-header.header; lost = c.saturating_add-lost.result; rows = record { rows = c.in_ok-rows.rows; trees = c.in_ok-trees.trees }; changed = false; broken = None; added = record { read_requests = 0; reads = 0; write_requests = 0; writes = 0 } } in
    let index : string_bytes c.in_ok-index.index ≡ index_file t.name = c.in_ok-index.ensures ∙ ap index_file (sym c.in_ok-from_str.ensures.ok) in
    let data_named : string_bytes c.in_ok-data.data ≡ rows_file t.name = c.in_ok-data.ensures ∙ ap rows_file (sym c.in_ok-from_str.ensures.ok) in
    let read : IsRead d d.raw t.header = read_parts d d.raw t.header (ap (read_state d) (sym c.as_slice.ensures) ∙ c.in_ok-header.ensures.found) in
    let small : c.in-Some.begin < 2 ^ 64 = c.in-Some.ensures.small in
    let opened : AreOpened t d c.in-Some.begin =
    are_opened t d c.as_str-3.result.now c.as_str-4.result.now c.used_end-used.result c.in-Some.begin (c.as_str-3.ensures.value ∙ data_named) (c.as_str-4.ensures.value ∙ index) c.used_end-used.ensures c.in-Some.ensures.begin small
    c.saturating_add-lost.ensures c.in_ok-rows.ensures.file c.in_ok-rows.ensures.noted c.in_ok-trees.ensures.places c.in_ok-trees.ensures.placed c.in_ok-trees.ensures.room c.in_ok-trees.ensures.name c.in_ok-trees.ensures.kept c.in_ok-trees.ensures.current refl in
    let first : AreFirst t d = record { each = c.in_ok-trees.ensures.each; pointers = c.in_ok-trees.ensures.pointers; whole = c.in_ok-trees.ensures.whole; setup = c.in_ok-trees.ensures.setup; allowed = c.requires.setup; fewer = omega arith } in
    is_tied t d c.in-Some.begin (string_bytes c.in_ok-index.index) c.in_ok-opened.ensures.defs opened first read index

pub returns-clause-loaded : goal.returns-clause-loaded
returns-clause-loaded g c = λ m held.
    let d = c.in_ok-opened.opened.defs in
    let t : OpenTable = record { name = string_bytes c.in_ok-from_str.field-0; setup = c.args.setup; header = c.in_ok-header.header; lost = c.saturating_add-lost.result; rows = record { rows = c.in_ok-rows.rows; trees = c.in_ok-trees.trees }; changed = false; broken = None; added = record { read_requests = 0; reads = 0; write_requests = 0; writes = 0 } } in
    let index : string_bytes c.in_ok-index.index ≡ index_file t.name = c.in_ok-index.ensures ∙ ap index_file (sym c.in_ok-from_str.ensures.ok) in
    let data_named : string_bytes c.in_ok-data.data ≡ rows_file t.name = c.in_ok-data.ensures ∙ ap rows_file (sym c.in_ok-from_str.ensures.ok) in
    let read : IsRead d d.raw t.header = read_parts d d.raw t.header (ap (read_state d) (sym c.as_slice.ensures) ∙ c.in_ok-header.ensures.found) in
    let small : c.in-Some.begin < 2 ^ 64 = c.in-Some.ensures.small in
    let opened : AreOpened t d c.in-Some.begin =
    are_opened t d c.as_str-3.result.now c.as_str-4.result.now c.used_end-used.result c.in-Some.begin (c.as_str-3.ensures.value ∙ data_named) (c.as_str-4.ensures.value ∙ index) c.used_end-used.ensures c.in-Some.ensures.begin small
    c.saturating_add-lost.ensures c.in_ok-rows.ensures.file c.in_ok-rows.ensures.noted c.in_ok-trees.ensures.places c.in_ok-trees.ensures.placed c.in_ok-trees.ensures.room c.in_ok-trees.ensures.name c.in_ok-trees.ensures.kept c.in_ok-trees.ensures.current refl in
    let h = c.in_ok-opened.ensures.table m held in
    subst (λ (n : List ℕ). IsLoaded n t m) c.in_ok-from_str.ensures.ok
    (is_loaded c.opened_files_stand.ensures t d c.in-Some.begin m h.data_file h.index_file opened
    (opened_by t.name c.as_str.result.now c.as_str-2.result.now d c.in_ok-opened.opened.length m (c.as_str.ensures.value ∙ index) (c.as_str-2.ensures.value ∙ data_named) h) read)
