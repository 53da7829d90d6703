use Rattle.std.proofs.Common.{◌≡◌, ◌∙◌, ap, subst, length, map}
use Rattle.myi_defs.specs.declared.types.Defs.{Defs}
use Rattle.myi_tablestate.specs.Listed.{placed}
use Rattle.myi_history.specs.Lines.{IsRange, ReadsRange}
use Rattle.myi_table.specs.Table.{defs_in}
use Rattle.myi_shell.proofs.ReadLemmas.{in_table, found_scan, found_range}
use Rattle.myi_shell.proofs.reading.read.Goals as goal

pub range-requires-clause-key : goal.range-requires-clause-key
range-requires-clause-key g c κs within =
    let d = defs_in c.args.table.now in
    let r : IsRange d c.in-Over.range = subst (ReadsRange d) c.in-Over.is c.requires.range in
    in_table d c.in-Over.range c.in_ok-range-in-Over.range (length c.args.table.now.rows.trees.places) (length c.defs.result.now.keys) c.in_ok-range-in-Over.ensures c.defs.ensures.keys (ap (λ (d : Defs). length d.keys) c.defs.ensures.defs) r

pub returns-in_ok-push_found-in-Scan-clause-said : goal.returns-in_ok-push_found-in-Scan-clause-said
returns-in_ok-push_found-in-Scan-clause-said g c = λ m held s h.
    let rows_are : c.deref.result.now ≡ map placed s.rows = c.deref.ensures.value ∙ c.in_ok-found-in-Scan.ensures.rows m held s h in
    c.in_ok-push_found-in-Scan.ensures ∙ found_scan (defs_in c.args.table.now) c.args.act.now s c.args.texts.now c.args.line c.args.view c.deref.result.now c.in-Scan.is rows_are

pub returns-in_ok-push_found-in-Over-clause-said : goal.returns-in_ok-push_found-in-Over-clause-said
returns-in_ok-push_found-in-Over-clause-said g c = λ m held s h.
    let d = defs_in c.args.table.now in
    let r : IsRange d c.in-Over.range = subst (ReadsRange d) c.in-Over.is c.requires.range in
    c.in_ok-push_found-in-Over.ensures
    ∙ found_range d c.args.act.now c.in-Over.range c.in_ok-range-in-Over.range s c.args.texts.now c.args.line c.args.view c.deref-in-Over.result.now c.in_ok-found-in-Over.found.items _ _ c.in-Over.is
    c.in_ok-range-in-Over.ensures r h.files.table.table.state c.deref-in-Over.ensures.value (c.in_ok-found-in-Over.ensures.rows m held s h)
