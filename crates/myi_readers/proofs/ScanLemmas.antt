-- Reading the rows of the base, one after the other.
use Rattle.std.proofs.Common.{◌≡◌, ℕ, ◌<◌, ◌≤◌, Bool, false, List, [], ◌∷◌, ◌++◌, length, map, Option, Some, None, Result, Ok, unwrap_or, refl, sym, ap, subst, ◌∙◌, arith, append_assoc}
use Rattle.std.proofs.Common.{cond}
use Rattle.std.proofs.lemmas.Bool.{lt-ltb, le-ltb}
use Rattle.std.proofs.lemmas.List.{append-nil, take_all}
use Rattle.std.proofs.lemmas.List.Elements.{filter-append}
use Rattle.myi_base.specs.Holding.{Holding, IfTold, bytes_of}
use Rattle.myi_defs.specs.declared.types.Defs.{Defs}
use Rattle.myi_defs.specs.Sound.{IsSound}
use Rattle.myi_pack.specs.Packed.{Values}
use Rattle.myi_pack.specs.Unpacking.{row_of}
use Rattle.myi_chain.specs.declared.piece.Piece.{Piece}
use Rattle.myi_chain.specs.declared.piece.ScanFault.{ScanFault}
use Rattle.myi_chain.specs.declared.piece.Wanted.TheVariants.{Rows}
use Rattle.myi_chain.specs.Pieces.{piece_bytes}
use Rattle.myi_chain.specs.Readable.{Row, rows_of}
use Rattle.myi_chain.specs.Readable as chains
use Rattle.myi_chain.specs.ScanModel.{fresh_scan, as_item, as_items}
use Rattle.myi_chain.proofs.CallerLemmas.{row_first}
use Rattle.myi_data.specs.Readable.{items_in, readable}
use Rattle.myi_data.specs.Scanning.{TableScan, items_ahead, rows_ahead, AfterTable}
use Rattle.myi_data.proofs.CallerLemmas.{fresh_ahead, fresh_known}
use Rattle.myi_state.specs.declared.counts.Counts.{Counts}
use Rattle.myi_state.specs.State.{StoredRow, TableState}
use Rattle.myi_state.specs.Numbers.{counts_of}
use Rattle.myi_state.specs.Standing.{StandsFor, stored_row}
use Rattle.myi_pair.specs.Clean.{values_of, placed_row}
use Rattle.myi_tablestate.specs.Listed.{placed}
use Rattle.myi_keyedrows.specs.declared.keyed_rows.KeyedRows.{KeyedRows}
use Rattle.myi_keyedrows.specs.KeyedRows.{defs_of, HoldTable}
use Rattle.myi_table.specs.Reading.{rows_to_come, IsFirst, BeginsWithAll}
use Rattle.myi_readers.specs.Placed.{stands_before, placed_before}

-- what is read in a file that stands for a state are its rows
abbrev pub RowsAreRead : Type 0
RowsAreRead = (d : Defs) (s : TableState) (x : List ℕ) → IsSound d → StandsFor d s x → map (stored_row d) (readable d false x) ≡ s.rows

-- ---- where a scan begins

pub file_long : (k : KeyedRows) (own : ℕ → ℕ) (s : TableState) (m : Holding) → HoldTable k own s m → length (bytes_of k.rows.file.name m) ≡ k.rows.file.counts.length
unfolding counts_of
file_long k own s m h = let is = h.rows.0 in is.stands.long ∙ sym (ap (λ (c : Counts). c.length) is.counts)

pub file_ends : (k : KeyedRows) (own : ℕ → ℕ) (s : TableState) (m : Holding) → HoldTable k own s m → k.rows.file.counts.length ≡ s.space.end
unfolding counts_of
file_ends k own s m h = ap (λ (c : Counts). c.length) h.rows.0.counts

stored_placed : (d : Defs) (rows : List Row) → map placed (map (stored_row d) rows) ≡ map (placed_row d) rows
stored_placed d [] = refl
stored_placed d (r ∷ rows) = ap (λ (q : List (ℕ × Values)). placed_row d r ∷ q) (stored_placed d rows)

pub begins : (k : KeyedRows) (d : Defs) (scan : TableScan) (own : ℕ → ℕ) (s : TableState) (m : Holding) → RowsAreRead → IsSound d → defs_of k ≡ d → scan ≡ fresh_scan k.rows.file.name d false k.rows.file.counts.length → HoldTable k own s m → BeginsWithAll scan s m
unfolding readable
begins k d scan own s m law sound same is h =
    let e = defs_of k in
    let good : IsSound e = subst IsSound (sym same) sound in
    let name = k.rows.file.name in
    let end = k.rows.file.counts.length in
    let long = file_long k own s m h in
    let whole = take_all end (bytes_of name m) (omega (arith, long)) in
    let ahead : items_ahead (fresh_scan name e false end) m ≡ items_in e false (bytes_of name m) = fresh_ahead name e false end m ∙ ap (items_in e false) whole in
    let fresh : scan ≡ fresh_scan name e false end = is ∙ ap (λ (u : Defs). fresh_scan name u false end) (sym same) in
    subst (λ (q : TableScan). BeginsWithAll q s m) (sym fresh) (record {
      rows = ap (λ (q : List chains.Item). map (placed_row e) (rows_of q)) ahead ∙ sym (stored_placed e (rows_of (items_in e false (bytes_of name m)))) ∙ ap (λ (q : List StoredRow). map placed q) (law e s (bytes_of name m) good h.rows.0.stands);
      known = fresh_known name e false end m (λ dynamic. omega (arith, long));
    })

-- ---- one call

-- what a call answered, and what it leaves
pub answered_of : (h : Option Holding) (old new : TableScan) (r : Result (Option (ℕ × Piece)) ScanFault) (o : Option (ℕ × Piece)) (x : ℕ × Piece) → r ≡ Ok o → o ≡ Some x → AfterTable Rows h old (as_items r) new → AfterTable Rows h old (Ok (Some (as_item x))) new
answered_of h old new r o x ok some leaves = subst (λ (o : Option (ℕ × Piece)). AfterTable Rows h old (as_items (Ok o)) new) some (subst (λ (r : Result (Option (ℕ × Piece)) ScanFault). AfterTable Rows h old (as_items r) new) ok leaves)

pub first_row : (d : Defs) (h : Option Holding) (old new : TableScan) (found : ℕ × Piece) (view row : Values) (bytes : List ℕ) → old.test ≡ d → AfterTable Rows h old (Ok (Some (as_item found))) new → bytes ≡ piece_bytes found.1 → row_of d bytes ≡ Some view → row ≡ view
    → IfTold h (λ m. IsFirst (rows_to_come old m) (rows_to_come new m) (Some (found.0, row)))
first_row d h old new found view row bytes tested answer shows read same = λ m told.
    let given = row_first (items_ahead old m) (items_ahead new m) found.0 found.1 old.blocks new.blocks (answer.0.told m told) in
    let r : Row = given.0 in
    let values : values_of old.test r ≡ view = ap (λ (u : Defs). values_of u r) tested ∙ ap (λ (b : List ℕ). unwrap_or (row_of d b) []) (sym (shows ∙ given.2.1)) ∙ ap (λ (o : Option Values). unwrap_or o []) read in
    let place : r.at ≡ found.0 = given.2.0 in
    ap (map (placed_row old.test)) given.1
    ∙ ap (λ (v : Values). (r.at, v) ∷ map (placed_row old.test) (rows_ahead new m)) (values ∙ sym same)
    ∙ ap (λ (at : ℕ). (at, row) ∷ map (placed_row old.test) (rows_ahead new m)) place ∙ ap (λ (u : Defs). (found.0, row) ∷ map (placed_row u) (rows_ahead new m)) (sym answer.0.same.test)

pub no_row : (h : Option Holding) (old new : TableScan) (r : Result (Option (ℕ × Piece)) ScanFault) (o : Option (ℕ × Piece)) → r ≡ Ok o → o ≡ None → AfterTable Rows h old (as_items r) new → IfTold h (λ m. IsFirst (rows_to_come old m) (rows_to_come new m) None)
no_row h old new r o ok none leaves = λ m told.
    let answer = subst (λ (o : Option (ℕ × Piece)). AfterTable Rows h old (as_items (Ok o)) new) none (subst (λ (r : Result (Option (ℕ × Piece)) ScanFault). AfterTable Rows h old (as_items r) new) ok leaves) in
    ap (map (placed_row old.test)) (answer.0.told m told).0

-- ---- all rows before a place

-- one more
pub before_more : (below : ℕ) (rows new all now next : List (ℕ × Values)) (row : ℕ × Values) → rows ++ placed_before below now ≡ placed_before below all → now ≡ row ∷ next → new ≡ rows ++ placed_before below (row ∷ []) → new ++ placed_before below next ≡ placed_before below all
before_more below rows new all now next row so_far is more =
    ap (λ (q : List (ℕ × Values)). q ++ placed_before below next) more
    ∙ append_assoc rows (placed_before below (row ∷ [])) (placed_before below next)
    ∙ ap (λ (q : List (ℕ × Values)). rows ++ q) (sym (filter-append (stands_before below) (row ∷ []) next))
    ∙ ap (λ (q : List (ℕ × Values)). rows ++ placed_before below q) (sym is) ∙ so_far

-- and then all
pub before_all : (below : ℕ) (rows all now : List (ℕ × Values)) → rows ++ placed_before below now ≡ placed_before below all → now ≡ [] → rows ≡ placed_before below all
before_all below rows all now so_far none = sym (append-nil rows) ∙ ap (λ (q : List (ℕ × Values)). rows ++ placed_before below q) (sym none) ∙ so_far

-- a row is put behind others where it stands before the place
pub one_before : (below : ℕ) (rows new : List (ℕ × Values)) (row : ℕ × Values) → row.0 < below → new ≡ rows ++ row ∷ [] → new ≡ rows ++ placed_before below (row ∷ [])
one_before below rows new row lt is = is ∙ ap (λ (b : Bool). rows ++ cond b (row ∷ []) []) (sym (lt-ltb row.0 below lt))

pub none_before : (below : ℕ) (rows : List (ℕ × Values)) (row : ℕ × Values) → below ≤ row.0 → rows ≡ rows ++ placed_before below (row ∷ [])
none_before below rows row le = sym (append-nil rows) ∙ ap (λ (b : Bool). rows ++ cond b (row ∷ []) []) (sym (le-ltb row.0 below le))
