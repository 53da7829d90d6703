-- The rows of a table that are read one after the other.
use Rattle.std.proofs.Common.{◌≡◌, ℕ, zero, suc, ◌+◌, false, List, [], ◌∷◌, ◌++◌, length, take, map, Option, Some, Result, Ok, unwrap_or, refl, sym, ap, subst, ◌∙◌, arith, append_assoc}
use Rattle.std.specs.Prelude.{replicate}
use Rattle.std.proofs.lemmas.List.{append-nil, map-append, length_push, take_all, length-map}
use Rattle.myi_base.specs.Holding.{Holding, IfTold, bytes_of}
use Rattle.myi_defs.specs.declared.types.Defs.{Defs}
use Rattle.myi_chain.specs.declared.piece.Piece.{Piece}
use Rattle.myi_chain.specs.declared.piece.ScanFault.{ScanFault}
use Rattle.myi_chain.specs.declared.piece.Wanted.TheVariants.{Rows}
use Rattle.myi_chain.specs.Pieces.{piece_bytes}
use Rattle.myi_chain.specs.Readable.{Row, rows_of}
use Rattle.myi_chain.specs.ScanModel.{fresh_scan, IsSameScan, as_item, as_items}
use Rattle.myi_chain.proofs.CallerLemmas.{row_first}
use Rattle.myi_keylist.specs.declared.pair.Pair.{Pair}
use Rattle.myi_pack.specs.Packed.{Values}
use Rattle.myi_pack.specs.Unpacking.{row_of}
use Rattle.myi_data.specs.Keys.{key_of}
use Rattle.myi_data.specs.Readable.{items_in, readable}
use Rattle.myi_data.specs.Scanning.{TableScan, items_ahead, rows_ahead, IsAsKnown, AfterTable}
use Rattle.myi_data.proofs.CallerLemmas.{fresh_ahead, fresh_known}
use Rattle.myi_rowkeys.specs.TableKeys.{numbers_from, key_numbers, row_keys}
use Rattle.myi_rowkeys.specs.RowLists.{with_pairs}
use Rattle.myi_rowkeys.proofs.CallerLemmas.{length-numbers}
use Rattle.myi_pair.specs.KeyList.{PlacedRow}
use Rattle.myi_pair.specs.Clean.{values_of, placed_row}
use Rattle.myi_order.specs.declared.rows_read.RowsRead.{RowsRead}
use Rattle.myi_order.specs.Counting.{placed_pair, placed_pairs, HasRead, Reads, ReadsAll, placed_ahead}

-- ---- the keys

no_pairs : (d : Defs) → replicate (length d.keys) [] ≡ placed_pairs d []
no_pairs d = none 1 (length d.keys)
  where
    none : (at n : ℕ) → replicate n [] ≡ map (λ k. map (placed_pair d k) []) (numbers_from at n)
    none at zero = refl
    none at (suc n) = ap (λ (ls : List (List Pair)). [] ∷ ls) (none (suc at) n)

pairs_next : (d : Defs) (rows : List PlacedRow) (row : PlacedRow) (ks : List ℕ) → with_pairs row.0 (map (λ k. key_of d k row.1) ks) (map (λ k. map (placed_pair d k) rows) ks) ≡ map (λ k. map (placed_pair d k) (rows ++ row ∷ [])) ks
pairs_next d rows row [] = refl
pairs_next d rows row (k ∷ ks) =
    ap (λ (ps : List Pair). ps ∷ with_pairs row.0 (map (λ j. key_of d j row.1) ks) (map (λ j. map (placed_pair d j) rows) ks)) (sym (map-append (placed_pair d k) rows (row ∷ [])))
    ∙ ap (λ (ls : List (List Pair)). map (placed_pair d k) (rows ++ row ∷ []) ∷ ls) (pairs_next d rows row ks)

-- a list for each key
pub lists_read : (d : Defs) (rows : List PlacedRow) (r : RowsRead) → HasRead d rows r → length r.keys ≡ length d.keys
lists_read d rows r has = ap (λ (ls : List (List Pair)). length ls) has.pairs ∙ length-map (key_numbers d) (λ k. map (placed_pair d k) rows) ∙ length-numbers 1 (length d.keys)

-- nothing was read
pub none_read : (d : Defs) (r : RowsRead) → r.keys ≡ replicate (length d.keys) [] → r.count ≡ 0 → HasRead d [] r
none_read d r keys count = record { pairs = keys ∙ no_pairs d; count = count }

row_taken : (d : Defs) (row : PlacedRow) (old new : RowsRead) → new.keys ≡ with_pairs row.0 (row_keys d row.1) old.keys → new.count ≡ old.count + 1 → (rows : List PlacedRow) → HasRead d rows old → HasRead d (rows ++ row ∷ []) new
row_taken d row old new keys count rows has = record {
  pairs = keys ∙ ap (with_pairs row.0 (row_keys d row.1)) has.pairs ∙ pairs_next d rows row (key_numbers d);
  count = count ∙ ap (λ n. n + 1) has.count ∙ sym (length_push rows row);
}

-- ---- one call

-- what a call answered, and what it leaves
pub answered_of : (h : Option Holding) (old new : TableScan) (r : Result (Option (ℕ × Piece)) ScanFault) (o : Option (ℕ × Piece)) (x : ℕ × Piece) → r ≡ Ok o → o ≡ Some x → AfterTable Rows h old (as_items r) new → AfterTable Rows h old (Ok (Some (as_item x))) new
answered_of h old new r o x ok some leaves = subst (λ o. AfterTable Rows h old (as_items (Ok o)) new) some (subst (λ r. AfterTable Rows h old (as_items r) new) ok leaves)

-- a row that was answered was read
pub reads : (d : Defs) (h : Option Holding) (s t : TableScan) (found : ℕ × Piece) (view : Values) (bytes : List ℕ) (old new : RowsRead) → s.test ≡ d → AfterTable Rows h s (Ok (Some (as_item found))) t → bytes ≡ piece_bytes found.1 → row_of d bytes ≡ Some view
    → new.keys ≡ with_pairs found.0 (row_keys d view) old.keys → new.count ≡ old.count + 1 → Reads d h s t old new
reads d h s t found view bytes old new tested answer shows read keys count = record {
  row = (found.0, view);
  takes = row_taken d (found.0, view) old new keys count;
  rises = answer.0.rises;
  within = answer.0.within;
  first = λ m told.
      let given = row_first (items_ahead s m) (items_ahead t m) found.0 found.1 s.blocks t.blocks (answer.0.told m told) in
      let r : Row = given.0 in
      let values : values_of s.test r ≡ view = ap (λ u. values_of u r) tested ∙ ap (λ b. unwrap_or (row_of d b) []) (sym (shows ∙ given.2.1)) ∙ ap (λ o. unwrap_or o []) read in
      let place : r.at ≡ found.0 = given.2.0 in
      ap (map (placed_row s.test)) given.1
      ∙ ap (λ (v : Values). (r.at, v) ∷ map (placed_row s.test) (rows_ahead t m)) values
      ∙ ap (λ at. (at, view) ∷ map (placed_row s.test) (rows_ahead t m)) place ∙ ap (λ u. (found.0, view) ∷ map (placed_row u) (rows_ahead t m)) (sym answer.0.same.test);
}

-- ---- the loop

-- these were read so far, and with those that are left they are all
abbrev pub Reading : Defs → Option Holding → TableScan → TableScan → List PlacedRow → RowsRead → Type 0
Reading d h start now rows r = HasRead d rows r × IfTold h (λ m. rows ++ placed_ahead now m ≡ placed_ahead start m)

pub reads_more : (d : Defs) (h : Option Holding) (start now next : TableScan) (rows : List PlacedRow) (old new : RowsRead) → Reading d h start now rows old → (read : Reads d h now next old new) → Reading d h start next (rows ++ read.row ∷ []) new
reads_more d h start now next rows old new so_far read = (
  read.takes rows so_far.0,
  λ m told. append_assoc rows (read.row ∷ []) (placed_ahead next m) ∙ ap (λ xs. rows ++ xs) (sym (read.first m told)) ∙ so_far.1 m told,
)

pub read_all : (d : Defs) (h : Option Holding) (start now : TableScan) (rows : List PlacedRow) (old new : RowsRead) → Reading d h start now rows old → new ≡ old → IfTold h (λ m. placed_ahead now m ≡ []) → ReadsAll d h start new
read_all d h start now rows old new so_far same none = (rows, subst (HasRead d rows) (sym same) so_far.0, λ m told. sym (append-nil rows) ∙ ap (λ xs. rows ++ xs) (sym (none m told)) ∙ so_far.1 m told)

pub same_then_scan : (a b c : TableScan) → IsSameScan a b → IsSameScan b c → IsSameScan a c
same_then_scan a b c p q = record { name = q.name ∙ p.name; test = q.test ∙ p.test; extend = q.extend ∙ p.extend; end = omega (arith, p.end, q.end) }

-- ---- the whole file

pub begins_known : (name x : List ℕ) (d : Defs) (end : ℕ) (scan : TableScan) (m : Holding) → scan ≡ fresh_scan name d false end → m name ≡ Some x → end ≡ length x → IsAsKnown scan m
begins_known name x d end scan m is file long =
    let here : bytes_of name m ≡ x = ap (λ o. unwrap_or o []) file in
    subst (λ (s : TableScan). IsAsKnown s m) (sym is) (fresh_known name d false end m (λ _. omega (arith, long, ap (λ (b : List ℕ). length b) here)))

pub all_placed : (name x : List ℕ) (d : Defs) (end : ℕ) (scan : TableScan) (m : Holding) → scan ≡ fresh_scan name d false end → m name ≡ Some x → end ≡ length x → placed_ahead scan m ≡ map (placed_row d) (readable d false x)
unfolding readable
all_placed name x d end scan m is file long =
    let here : bytes_of name m ≡ x = ap (λ o. unwrap_or o []) file in
    let ahead : items_ahead (fresh_scan name d false end) m ≡ items_in d false x = fresh_ahead name d false end m ∙ ap (λ b. items_in d false (take end b)) here ∙ ap (items_in d false) (take_all end x (omega (arith, long))) in
    ap (λ s. placed_ahead s m) is ∙ ap (λ is. map (placed_row d) (rows_of is)) ahead

pub same_file : (name x y : List ℕ) (n : ℕ) (m : Holding) → m name ≡ Some x → m name ≡ Some y → n ≡ length x → n ≡ length y
same_file name x y n m one two long = long ∙ ap (λ o. length (unwrap_or o [])) (sym one ∙ two)
