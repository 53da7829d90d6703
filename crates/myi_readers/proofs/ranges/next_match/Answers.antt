use Rattle.std.proofs.Common.{◌<◌, ℕ, length, sym, ap, subst, arith, inl}
use Rattle.std.specs.Prelude.{OnErr}
use Rattle.std.proofs.lemmas.Result.{err_from_is_err_and}
use Rattle.myi_base.specs.Holding.{IfTold}
use Rattle.myi_blocks.specs.Places.{NotedFile}
use Rattle.myi_state.specs.State.{TableState}
use Rattle.myi_ranges.specs.Ranges.{FailsInFew}
use Rattle.myi_keyedrows.specs.declared.keyed_rows.KeyedRows.{KeyedRows}
use Rattle.myi_readers.specs.Ranges.{HoldRange}
use Rattle.myi_readers.proofs.RangeLemmas.{has_table, searched_holds}
use Rattle.myi_readers.proofs.ranges.next_match.Goals as goal

pub next_row-requires-clause-kept : goal.next_row-requires-clause-kept
next_row-requires-clause-kept g c κs within = inl c.requires.written

pub next_row-requires-clause-table : goal.next_row-requires-clause-table
next_row-requires-clause-table g c κs within = λ m held.
    let k = c.requires.kept m held in
    let key : c.args.reading.now.key < length c.args.defs.now.keys = omega (arith, c.requires.key, c.requires.each) in
    (k.1, has_table c.args.defs.now c.args.reading.now c.args.rows.now k.0 k.1 m c.requires.defs key k.2)

pub returns-clause-row : goal.returns-clause-row
returns-clause-row g c = λ m held own s h.
    c.in_ok-row.ensures.row m held s (has_table c.args.defs.now c.args.reading.now c.args.rows.now own s m c.requires.defs (omega (arith, c.requires.key, c.requires.each)) h)

pub returns-clause-few : goal.returns-clause-few
returns-clause-few g c = λ m held own s h.
    c.in_ok-row.ensures.few m held s (has_table c.args.defs.now c.args.reading.now c.args.rows.now own s m c.requires.defs (omega (arith, c.requires.key, c.requires.each)) h)

pub returns-clause-again : goal.returns-clause-again
returns-clause-again g c = λ m held own s h.
    let told = g.F.Files.holds c.args.files.now in
    let next = g.F.Files.holds c.next_row.new.files in
    let k : KeyedRows = c.args.rows.now in
    record {
      table = searched_holds k c.next_row.new.rows c.next_row.new.trees own s m told next held (c.next_row.ensures.searched.written c.requires.written).1 c.next_row.ensures.rows c.next_row.ensures.searched.stand h.table;
      ahead = ((c.next_row.ensures.again.told m held).2 s (has_table c.args.defs.now c.args.reading.now k own s m c.requires.defs (omega (arith, c.requires.key, c.requires.each)) h)).ahead;
    }

pub returns-in_err-row-clause-again : goal.returns-in_err-row-clause-again
returns-in_err-row-clause-again g c = λ m held own s h.
    let told = g.F.Files.holds c.args.files.now in
    let next = g.F.Files.holds c.next_row.new.files in
    let k : KeyedRows = c.args.rows.now in
    record {
      table = searched_holds k c.next_row.new.rows c.next_row.new.trees own s m told next held (c.next_row.ensures.searched.written c.requires.written).1 c.next_row.ensures.rows c.next_row.ensures.searched.stand h.table;
      ahead = ((c.next_row.ensures.again.told m held).2 s (has_table c.args.defs.now c.args.reading.now k own s m c.requires.defs (omega (arith, c.requires.key, c.requires.each)) h)).ahead;
    }

pub returns-clause-written : goal.returns-clause-written
returns-clause-written g c = (c.next_row.ensures.searched.written c.requires.written).0

pub returns-in_err-row-clause-written : goal.returns-in_err-row-clause-written
returns-in_err-row-clause-written g c = (c.next_row.ensures.searched.written c.requires.written).0

pub returns-clause-holds : goal.returns-clause-holds
returns-clause-holds g c = (c.next_row.ensures.searched.written c.requires.written).1

pub returns-in_err-row-clause-holds : goal.returns-in_err-row-clause-holds
returns-in_err-row-clause-holds g c = (c.next_row.ensures.searched.written c.requires.written).1

pub returns-clause-left : goal.returns-clause-left
returns-clause-left g c = record { file = ap (λ (f : NotedFile). f.file) c.next_row.ensures.rows; places = c.next_row.ensures.searched.places; room = c.next_row.ensures.searched.room }

pub returns-in_err-row-clause-left : goal.returns-in_err-row-clause-left
returns-in_err-row-clause-left g c = record { file = ap (λ (f : NotedFile). f.file) c.next_row.ensures.rows; places = c.next_row.ensures.searched.places; room = c.next_row.ensures.searched.room }

pub returns-in_err-row-clause-failed : goal.returns-in_err-row-clause-failed
returns-in_err-row-clause-failed g c =
    let e = err_from_is_err_and c.from_residual.result c.from_residual.ensures.1 in
    let told = g.F.Files.holds c.args.files.now in
    let d = c.args.defs.now in
    let r = c.args.reading.now in
    let k : KeyedRows = c.args.rows.now in
    let P : Type 0 = IfTold told (λ m. (own : ℕ → ℕ) (s : TableState) → HoldRange d r k own s m → FailsInFew d s r (g.F.Files.reads c.args.files.now) (g.F.Files.reads c.next_row.new.files)) in
    let failed : P = λ m held own s h. c.in_err-row.ensures.failed m held s (has_table d r k own s m c.requires.defs (omega (arith, c.requires.key, c.requires.each)) h) in
    subst (λ q. OnErr q P) (sym e.1) failed
