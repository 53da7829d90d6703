-- Reading all rows of a table, one after the other.
use Rattle.std.proofs.Common.{◌≡◌, ℕ, ◌+◌, ◌<◌, ◌≤◌, false, List, [], ◌∷◌, ◌++◌, length, map, Option, Some, None, Result, Ok, Err, unwrap_or, inl, inr, refl, sym, ap, subst, ◌∙◌, arith, append_assoc}
use Rattle.std.proofs.lemmas.List.{append-nil, take_all}
use Rattle.myi_base.specs.Holding.{Holding, IfTold, bytes_of}
use Rattle.myi_defs.specs.declared.types.Defs.{Defs}
use Rattle.myi_defs.specs.Sound.{IsSound}
use Rattle.myi_pack.specs.Packed.{Values}
use Rattle.myi_pack.specs.Unpacking.{row_of}
use Rattle.myi_chain.specs.declared.piece.Piece.{Piece}
use Rattle.myi_chain.specs.declared.piece.ScanFault.{ScanFault}
use Rattle.myi_chain.specs.declared.piece.ScanFault.TheVariants as scan
use Rattle.myi_chain.specs.declared.piece.Wanted.TheVariants.{Rows}
use Rattle.myi_chain.specs.Pieces.{piece_bytes}
use Rattle.myi_chain.specs.Readable.{Row, rows_of}
use Rattle.myi_chain.specs.Readable as chains
use Rattle.myi_chain.specs.ScanModel.{fresh_scan, IsSameScan, as_item, as_items}
use Rattle.myi_chain.proofs.CallerLemmas.{row_first}
use Rattle.myi_data.specs.Readable.{items_in, readable}
use Rattle.myi_data.specs.Scanning.{TableScan, items_ahead, rows_ahead, AfterTable}
use Rattle.myi_data.proofs.CallerLemmas.{fresh_ahead, fresh_known}
use Rattle.myi_state.specs.declared.counts.Counts.{Counts}
use Rattle.myi_state.specs.State.{StoredRow, TableState}
use Rattle.myi_state.specs.Numbers.{counts_of}
use Rattle.myi_state.specs.Standing.{stored_row}
use Rattle.myi_pair.specs.Clean.{values_of, placed_row}
use Rattle.myi_tablestate.specs.Listed.{placed}
use Rattle.myi_table.specs.declared.fault.Cause.{Cause}
use Rattle.myi_table.specs.declared.fault.ReadFault.{ReadFault}
use Rattle.myi_table.specs.declared.fault.ReadFault.TheVariants as reading
use Rattle.myi_table.specs.Faults.{of_scan}
use Rattle.myi_table.specs.Table.{OpenTable, defs_in, HoldState}
use Rattle.myi_table.specs.Reading.{rows_to_come, IsFirst, BeginsWithAll, ScanStays}
use Rattle.myi_table.proofs.RangeLemmas.{RowsAreRead}

-- ---- where a scan begins

file_long : (t : OpenTable) (s : TableState) (m : Holding) → HoldState t s m → length (bytes_of t.rows.rows.file.name m) ≡ t.rows.rows.file.counts.length
unfolding counts_of
file_long t s m h = let is = h.files.table.rows.0 in is.stands.long ∙ sym (ap (λ (c : Counts). c.length) is.counts)

stored_placed : (d : Defs) (rows : List Row) → map placed (map (stored_row d) rows) ≡ map (placed_row d) rows
stored_placed d [] = refl
stored_placed d (r ∷ rows) = ap (λ (q : List (ℕ × Values)). placed_row d r ∷ q) (stored_placed d rows)

pub begins : (t : OpenTable) (scan : TableScan) (s : TableState) (m : Holding) → RowsAreRead → IsSound (defs_in t) → scan ≡ fresh_scan t.rows.rows.file.name (defs_in t) false t.rows.rows.file.counts.length → HoldState t s m → BeginsWithAll scan s m
unfolding readable
begins t scan s m law sound is h =
    let d = defs_in t in
    let name = t.rows.rows.file.name in
    let end = t.rows.rows.file.counts.length in
    let long = file_long t s m h in
    let whole = take_all end (bytes_of name m) (omega (arith, long)) in
    let ahead : items_ahead (fresh_scan name d false end) m ≡ items_in d false (bytes_of name m) = fresh_ahead name d false end m ∙ ap (items_in d false) whole in
    subst (λ (q : TableScan). BeginsWithAll q s m) (sym is) (record {
      rows = ap (λ (q : List chains.Item). map (placed_row d) (rows_of q)) ahead ∙ sym (stored_placed d (rows_of (items_in d false (bytes_of name m)))) ∙ ap (λ (q : List StoredRow). map placed q) (law d s (bytes_of name m) sound h.files.table.rows.0.stands);
      known = fresh_known name d false end m (λ dynamic. omega (arith, long));
    })

-- ---- one call

-- what a call answered, and what it leaves
pub answered_of : (h : Option Holding) (old new : TableScan) (r : Result (Option (ℕ × Piece)) ScanFault) (o : Option (ℕ × Piece)) (x : ℕ × Piece) → r ≡ Ok o → o ≡ Some x → AfterTable Rows h old (as_items r) new → AfterTable Rows h old (Ok (Some (as_item x))) new
answered_of h old new r o x ok some leaves = subst (λ (o : Option (ℕ × Piece)). AfterTable Rows h old (as_items (Ok o)) new) some (subst (λ (r : Result (Option (ℕ × Piece)) ScanFault). AfterTable Rows h old (as_items r) new) ok leaves)

pub ended_of : (h : Option Holding) (old new : TableScan) (r : Result (Option (ℕ × Piece)) ScanFault) (o : Option (ℕ × Piece)) → r ≡ Ok o → o ≡ None → AfterTable Rows h old (as_items r) new → AfterTable Rows h old (Ok None) new
ended_of h old new r o ok none leaves = subst (λ (o : Option (ℕ × Piece)). AfterTable Rows h old (as_items (Ok o)) new) none (subst (λ (r : Result (Option (ℕ × Piece)) ScanFault). AfterTable Rows h old (as_items r) new) ok leaves)

pub first_row : (d : Defs) (h : Option Holding) (old new : TableScan) (found : ℕ × Piece) (view : Values) (bytes : List ℕ) → old.test ≡ d → AfterTable Rows h old (Ok (Some (as_item found))) new → bytes ≡ piece_bytes found.1 → row_of d bytes ≡ Some view
    → IfTold h (λ m. IsFirst (rows_to_come old m) (rows_to_come new m) (Some (found.0, view)))
first_row d h old new found view bytes tested answer shows read = λ m told.
    let given = row_first (items_ahead old m) (items_ahead new m) found.0 found.1 old.blocks new.blocks (answer.0.told m told) in
    let r : Row = given.0 in
    let values : values_of old.test r ≡ view = ap (λ (u : Defs). values_of u r) tested ∙ ap (λ (b : List ℕ). unwrap_or (row_of d b) []) (sym (shows ∙ given.2.1)) ∙ ap (λ (o : Option Values). unwrap_or o []) read in
    let place : r.at ≡ found.0 = given.2.0 in
    ap (map (placed_row old.test)) given.1
    ∙ ap (λ (v : Values). (r.at, v) ∷ map (placed_row old.test) (rows_ahead new m)) values
    ∙ ap (λ (at : ℕ). (at, view) ∷ map (placed_row old.test) (rows_ahead new m)) place ∙ ap (λ (u : Defs). (found.0, view) ∷ map (placed_row u) (rows_ahead new m)) (sym answer.0.same.test)

pub no_row : (h : Option Holding) (old new : TableScan) → AfterTable Rows h old (Ok None) new → IfTold h (λ m. IsFirst (rows_to_come old m) (rows_to_come new m) None)
no_row h old new answer = λ m told. ap (map (placed_row old.test)) (answer.0.told m told).0

-- ---- refusals

stays_same : (old new : TableScan) (m : Holding) → new.test ≡ old.test → items_ahead new m ≡ items_ahead old m → rows_to_come new m ≡ rows_to_come old m
stays_same old new m test items = ap (λ (d : Defs). map (placed_row d) (rows_ahead new m)) test ∙ ap (λ (q : List chains.Item). map (placed_row old.test) (rows_of q)) items

pub same_scan : (s : TableScan) → IsSameScan s s
same_scan s = record { name = refl; test = refl; extend = refl; end = omega arith }

pub broken_stays : (h : Option Holding) (s : TableScan) (f : ReadFault) (cause : Cause) → f ≡ reading.Broken cause → ScanStays f h s s
broken_stays h s f cause is = subst (λ (e : ReadFault). ScanStays e h s s) (sym is) refl

-- nothing was answered
pub failed_stays : (h : Option Holding) (old new : TableScan) (e : ScanFault) → AfterTable Rows h old (Err e) new → ScanStays (of_scan e) h old new
failed_stays h old new scan.File leaves = λ m told. stays_same old new m leaves.0.same.test (leaves.0.told m told)
failed_stays h old new scan.Memory leaves = λ m told. inl (stays_same old new m leaves.0.same.test (leaves.0.told m told))

-- a row was read, and could not be kept
pub passed_stays : (d : Defs) (h : Option Holding) (old new : TableScan) (found : ℕ × Piece) (f : ReadFault) → AfterTable Rows h old (Ok (Some (as_item found))) new → f ≡ reading.Memory → ScanStays f h old new
passed_stays d h old new found f leaves is = subst (λ (e : ReadFault). ScanStays e h old new) (sym is) (λ m told.
    let given = row_first (items_ahead old m) (items_ahead new m) found.0 found.1 old.blocks new.blocks (leaves.0.told m told) in
    inr (placed_row old.test given.0, ap (map (placed_row old.test)) given.1 ∙ ap (λ (u : Defs). placed_row old.test given.0 ∷ map (placed_row u) (rows_ahead new m)) (sym leaves.0.same.test)))

-- ---- all rows

-- one more
pub row_more : (rows all now next : List (ℕ × Values)) (row : ℕ × Values) → rows ++ now ≡ all → now ≡ row ∷ next → (rows ++ row ∷ []) ++ next ≡ all
row_more rows all now next row so_far is = append_assoc rows (row ∷ []) next ∙ ap (λ (q : List (ℕ × Values)). rows ++ q) (sym is) ∙ so_far

-- and then all
pub row_all : (rows all now : List (ℕ × Values)) → rows ++ now ≡ all → now ≡ [] → rows ≡ all
row_all rows all now so_far none = sym (append-nil rows) ∙ ap (λ (q : List (ℕ × Values)). rows ++ q) (sym none) ∙ so_far
