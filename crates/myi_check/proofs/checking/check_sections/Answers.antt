use Rattle.std.proofs.Common.{◌≡◌, ◌∙◌, true, false, [], Ok, unwrap_or, refl, sym, ap, subst}
use Rattle.myi_defs.proofs.CallerLemmas.{sound}
use Rattle.myi_opening.specs.Opening.{Table, table}
use Rattle.myi_opening.proofs.CallerLemmas.{table_index, table_rows, table_read}
use Rattle.myi_header.specs.declared.state.State.{State}
use Rattle.myi_check.specs.Checking.{findings_by}
use Rattle.myi_check.specs.Rows.{ArePointed}
use Rattle.myi_check.proofs.SectionLemmas.{all_sections, list_found, item_found, keys_are, shown_are, same_size}
use Rattle.myi_check.proofs.OrderLaws.{all_in_order}
use Rattle.myi_check.proofs.checking.check_sections.Goals as goal

pub stored_header-requires : goal.stored_header-requires
stored_header-requires g c = sound c.args.opened.now.defs c.requires.defs

pub check_list-requires-clause-sound : goal.check_list-requires-clause-sound
check_list-requires-clause-sound g c κs lives = sound c.args.opened.now.defs c.requires.defs

pub room_left-requires : goal.room_left-requires
room_left-requires g c = sound c.args.opened.now.defs c.requires.defs

pub find_rows-requires-clause-long : goal.find_rows-requires-clause-long
find_rows-requires-clause-long g c κs lives = λ m held.
    let h = c.requires.opened m held in
    (h.data_file, table_rows c.args.index.now c.args.rows.now (table c.args.opened.now.defs h.data_file h.index_file) m h.is, h.long)

pub keys_found-requires-clause-long : goal.keys_found-requires-clause-long
keys_found-requires-clause-long g c κs lives = λ m held.
    let h = c.requires.opened m (sym (c.in_ok-listed.ensures.holds ∙ c.in_ok-found.ensures.holds) ∙ held) in
    (h.data_file, table_rows c.args.index.now c.args.rows.now (table c.args.opened.now.defs h.data_file h.index_file) m h.is, h.long)

pub returns-clause-findings : goal.returns-clause-findings
returns-clause-findings g c m held =
    let index = c.args.index.now in
    let rows = c.args.rows.now in
    let d = c.args.opened.now.defs in
    let h = c.requires.opened m held in
    let t : Table = table d h.data_file h.index_file in
    let there = table_index index rows t m h.is in
    let rows_there = table_rows index rows t m h.is in
    let read = table_read index rows t m h.is in
    let state = c.in_ok-header.ensures.state h.index_file read in
    let mark = c.in_ok-header.ensures.marked h.index_file read in
    let found = c.in_ok-found.ensures.found m held h.data_file rows_there in
    let held2 = c.in_ok-found.ensures.holds ∙ held in
    let held3 = c.in_ok-listed.ensures.holds ∙ held2 in
    let points = subst (λ n. ArePointed d n c.in_ok-found.found.deleted) (sym h.long) found.pointed in
    let listed = c.in_ok-listed.ensures.found m held2 h.data_file (ap (λ o. unwrap_or o []) rows_there) (sym h.long) found.ascends points in
    let size = same_size (m index) h.index_file c.args.size there (c.requires.long m held) in
    let keys = λ (marked : c.in_ok-header.header.marked ≡ true). c.in_ok-keys.ensures.found m held3 h.index_file h.data_file there rows_there (ap (λ (s : State). s.roots) state) (record { long = h.long; records = found.records; places = found.places }) marked in
    ap findings_by h.is ∙ ap Ok (sym (all_sections d h.data_file h.index_file c.header_item-item.result c.in_ok-listed.listed c.in_ok-found.found.gap c.in_ok-keys.keys.findings.items c.in_ok-all_findings.field-0.items
    (item_found d h.data_file h.index_file c.in_ok-header.header _ c.header_item-item.result state mark (λ marked. shown_are d h.data_file h.index_file c.args.size false c.in_ok-found.found c.in_ok-keys.keys _ size c.ranges.size.fits found (keys marked) refl c.len.ensures refl refl h.long refl c.room_left.ensures) c.header_item-item.ensures)
    (list_found d h.data_file h.index_file c.in_ok-found.found.deleted c.in_ok-header.header.state.dellink c.in_ok-listed.listed found.deleted (ap (λ (s : State). s.dellink) state) listed)
    (keys_are d h.data_file h.index_file c.in_ok-header.header.marked c.in_ok-keys.keys mark keys c.in_ok-keys.ensures.foreign)
    found.gap c.in_ok-all_findings.ensures))

pub returns-clause-sections : goal.returns-clause-sections
returns-clause-sections g c = all_in_order c.header_item-item.result c.in_ok-listed.listed c.in_ok-found.found.gap c.in_ok-keys.keys.findings.items c.in_ok-all_findings.field-0.items c.in_ok-keys.ensures.order c.in_ok-all_findings.ensures
