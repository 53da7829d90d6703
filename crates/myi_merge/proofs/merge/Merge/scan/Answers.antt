use Rattle.std.proofs.Common.{◌≡◌, ℕ, suc, ◌+◌, ◌<◌, ◌≤◌, List, ◌++◌, Err, length, drop, map, get_or, sym, ap, subst, ◌∙◌, arith}
use Rattle.myi_pack.specs.Packed.{Values}
use Rattle.myi_table.specs.Table.{OpenTable}
use Rattle.std.specs.Prelude.{IfErr}
use Rattle.std.proofs.lemmas.Result.{err_from_is_err_and}
use Rattle.myi_base.specs.Causes.{HasCause}
use Rattle.myi_table.specs.declared.fault.ReadFault.TheVariants.{File}
use Rattle.myi_merge.specs.Merged.{OpenMerge, IsRefusedFor}
use Rattle.myi_merge.specs.Reading.{NotDamaged, answered, all_rows}
use Rattle.myi_merge.proofs.RefuseLemmas.{refused_first, whole_first, cause_first}
use Rattle.myi_merge.proofs.ScanLemmas.{hold_at, whole_more, scanned_more, scanned_all}
use Rattle.myi_merge.proofs.merge.Merge.scan.Goals as goal

pub loop-table-preserved : goal.loop-table-preserved
loop-table-preserved g c =
    let ts : List OpenTable = c.deref-table-items.result.now in
    let i : ℕ = c.loop-table.table-index in
    let t : OpenTable = c.table-item.result in
    let same : ts ≡ c.args.self.now.tables = c.deref-table-items.ensures.value ∙ ap (λ (w : OpenMerge). w.tables) c.self.view_is in
    let us : List OpenTable = c.args.self.now.tables in
    let lt : i < length us = subst (λ (l : List OpenTable). i < length l) same c.loop-table-test.true in
    let at : get_or us i t ≡ t = sym (subst (λ (l : List OpenTable). t ≡ get_or l i t) same c.table-item.is) in
    let was = c.loop-table.invariant in
    record {
      number = ap (λ (n : ℕ). n + 1) was.number;
      whole = whole_more us i t lt was.whole (ap (λ (u : OpenTable). u.broken) at ∙ c.in_ok-rows.ensures.whole);
      so_far = λ m held ss h.
          let s = hold_at us ss m i t h lt in
          let rows = c.in_ok-rows.ensures.rows m (was.holds ∙ held) s.0 (subst (λ (u : OpenTable). Rattle.myi_table.specs.Table.HoldState u s.0 m) at s.2) in
          let next : suc i ≡ i + 1 = omega arith in
          let more = scanned_more ss i (c.loop-table.number + 1) s.0 c.loop-table.found.items (map answered (all_rows 1 ss)) c.in_ok-rows.rows.items (ap (λ (n : ℕ). n + 1) was.number) s.1 (was.so_far m held ss h) rows in
          subst (λ (k : ℕ). c.append.new.found.items ++ map answered (all_rows (c.loop-table.number + 1 + 1) (drop k ss)) ≡ map answered (all_rows 1 ss)) next
          (subst (λ (l : List (ℕ × ℕ × Values)). l ++ map answered (all_rows (c.loop-table.number + 1 + 1) (drop (suc i) ss)) ≡ map answered (all_rows 1 ss)) (sym c.in_ok-append.ensures) more);
      holds = c.in_ok-rows.ensures.holds ∙ was.holds;
      later = omega (arith, was.later, c.in_ok-rows.ensures.cause.later);
    }

pub returns-in_err-refuse_reading-clause-refused : goal.returns-in_err-refuse_reading-clause-refused
returns-in_err-refuse_reading-clause-refused g c =
    let e = err_from_is_err_and c.from_residual.result c.from_residual.ensures.1 in
    subst (λ r. IfErr r (IsRefusedFor c.args.self.now.tables)) (sym e.1)
    (subst (IsRefusedFor c.args.self.now.tables) (sym e.2) (refused_first c.args.self.now.tables c.in_err-refuse_reading.field-0.0 c.in_err-refuse_reading.ensures.first))

pub returns-in_err-refuse_reading-clause-never : goal.returns-in_err-refuse_reading-clause-never
returns-in_err-refuse_reading-clause-never g c =
    let e = err_from_is_err_and c.from_residual.result c.from_residual.ensures.1 in
    subst (λ r. IfErr r NotDamaged) (sym e.1)
    (subst NotDamaged (sym e.2) (whole_first c.args.self.now.tables c.in_err-refuse_reading.field-0.0 c.in_err-refuse_reading.ensures.first))

pub returns-in_err-refuse_reading-clause-cause : goal.returns-in_err-refuse_reading-clause-cause
returns-in_err-refuse_reading-clause-cause g c =
    let e = err_from_is_err_and c.from_residual.result c.from_residual.ensures.1 in
    let count : ℕ = g.F.Files.faults c.args.files.now in
    subst (HasCause File count count) (sym (e.1 ∙ ap Err e.2)) (cause_first c.args.self.now.tables c.in_err-refuse_reading.field-0.0 count c.in_err-refuse_reading.ensures.first)

pub returns-clause-rows : goal.returns-clause-rows
returns-clause-rows g c = λ m held ss h.
    let ts : List OpenTable = c.args.self.now.tables in
    let i : ℕ = c.loop-table.table-index in
    let same : c.deref-table-items.result.now ≡ ts = c.deref-table-items.ensures.value ∙ ap (λ (w : OpenMerge). w.tables) c.self.view_is in
    let past : length ts ≤ i = subst (λ (l : List OpenTable). length l ≤ i) same c.loop-table-test.false in
    scanned_all ts ss m i (c.loop-table.number + 1) c.loop-table.found.items (map answered (all_rows 1 ss)) h past (c.loop-table.invariant.so_far m held ss h)
