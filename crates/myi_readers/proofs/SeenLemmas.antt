-- The rows that are known, behind those of the base.
use Rattle.std.proofs.Common.{◌≡◌, ℕ, zero, suc, ◌+◌, ◌^◌, ◌<◌, ◌≤◌, Bool, true, false, nat_lt, List, [], ◌∷◌, ◌++◌, length, take, map, Option, Some, unwrap_or, cond, refl, sym, ap, ◌∙◌, arith, append_assoc}
use Rattle.std.specs.Prelude.{slice_index_or, sum_by}
use Rattle.std.specs.List.{take_while, prefix_len}
use Rattle.std.specs.Prelude.{is_some, ◌&&◌}
use Rattle.std.proofs.lemmas.Bool.{ltb-true}
use Rattle.std.proofs.lemmas.List.{get_or-take}
use Rattle.std.proofs.lemmas.List.Folds.{length-prefix_len}
use Rattle.std.proofs.lemmas.List.Sums.{prefix_len_passes}
use Rattle.myi_defs.specs.declared.types.RowFormat.{RowFormat}
use Rattle.myi_defs.specs.declared.types.RowFormat.TheVariants.{Static, Dynamic}
use Rattle.myi_keys.specs.declared.values.KeySeg.{KeySeg}
use Rattle.myi_data.specs.Keys.{key_of}
use Rattle.std.proofs.lemmas.Bool.{le-ltb}
use Rattle.std.proofs.lemmas.Bool.Decides.{nat_tests}
use Rattle.std.proofs.lemmas.List.{append-nil, map-append, take_all}
use Rattle.std.proofs.lemmas.List.Elements.{filter-append}
use Rattle.std.proofs.lemmas.List.Sums.{sum_by-cons, sum_by_push}
use Rattle.myi_defs.specs.declared.types.Defs.{Defs}
use Rattle.myi_defs.specs.Sound.{IsSound}
use Rattle.myi_pack.specs.Packed.{Values}
use Rattle.myi_pack.specs.Unpacking.{row_of}
use Rattle.myi_pack.specs.Spelling.{spelling}
use Rattle.myi_pack.proofs.CallerLemmas.{row-reads}
use Rattle.myi_state.specs.State.{StoredRow, TableState}
use Rattle.myi_state.specs.Changes.{insert_at_end, accepted, behind_taken}
use Rattle.myi_state.specs.Sound.{IsState}
use Rattle.myi_state.proofs.CallerLemmas.{accepted-kept}
use Rattle.myi_tablestate.specs.Listed.{placed}
use Rattle.myi_snapshots.specs.declared.snapshot.Snapshot.{Snapshot}
use Rattle.myi_snapshots.specs.Appended.{with_rows, rows_before, AllFit}
use Rattle.myi_snapshots.specs.Known.{is_row, is_short, packed_rows, size_of, end_with}
use Rattle.myi_snapshots.specs.Knowing.{Knowing, packed_of, told_place}
use Rattle.myi_snapshots.specs.Seen.{seen_rows}
use Rattle.myi_snapshots.proofs.CallerLemmas.{last, ends}
use Rattle.myi_readers.specs.declared.reader.TableReader.{TableReader}
use Rattle.myi_readers.specs.Reader.{IsReader, rows_known, end_known}
use Rattle.myi_tablestate.specs.Matching.{Bounds}
use Rattle.myi_readers.specs.KeyedRows.{keyed_of, all_keyed, is_between, all_between}
use Rattle.myi_readers.specs.Placed.{stands_before, placed_before, placed_packed}

-- the rows that the object on the words knows are those of the reader
pub packed_known : (r : TableReader) → IsReader r → packed_of r.known ≡ rows_known r
packed_known r is = ap (λ (d : Defs). take_while (is_row d) r.known.whole) is.of_table ∙ ap (take_while (is_row r.defs)) is.whole

-- ---- rows one after the other from a position on

abbrev pub placed_from : Defs → ℕ → List Values → List (ℕ × Values)
placed_from d at [] = []
placed_from d at (row ∷ rows) = (at, row) ∷ placed_from d (at + size_of d (spelling d row)) rows

pub packed_are : (d : Defs) (at : ℕ) (rows : List Values) → IsSound d → AllFit d rows → placed_packed d at (packed_rows d rows) ≡ placed_from d at rows
packed_are d at [] sound fit = refl
packed_are d at (x ∷ xs) sound fit =
    let here : unwrap_or (row_of d (spelling d x)) [] ≡ x = ap (λ (o : Option Values). unwrap_or o []) (row-reads d x sound fit.0) in
    ap (λ (v : Values). (at, v) ∷ placed_packed d (at + size_of d (spelling d x)) (packed_rows d xs)) here
    ∙ ap (λ (l : List (ℕ × Values)). (at, x) ∷ l) (packed_are d (at + size_of d (spelling d x)) xs sound fit.1)

end_one : (d : Defs) (s : TableState) (row : Values) → (with_rows d s (row ∷ [])).space.end ≡ s.space.end + size_of d (spelling d row)
end_one d s row =
    let sum : sum_by (size_of d) (spelling d row ∷ []) ≡ size_of d (spelling d row) + 0 = sum_by-cons (size_of d) (spelling d row) [] in
    let one : s.space.end + sum_by (size_of d) (spelling d row ∷ []) ≡ s.space.end + size_of d (spelling d row) = omega (arith, sum) in
    ends d s (row ∷ []) ∙ one

rows_are : (d : Defs) (s : TableState) (rows : List Values) → IsSound d → IsState d s → AllFit d rows → map placed (with_rows d s rows).rows ≡ map placed s.rows ++ placed_from d s.space.end rows
rows_are d s [] sound i fit = sym (append-nil (map placed s.rows))
rows_are d s (x ∷ xs) sound i fit =
    let next : TableState = (accepted d s (insert_at_end x)).state in
    let r : StoredRow = record { at = s.space.end; values = x; blocks = (behind_taken d s.space x).blocks } in
    rows_are d next xs sound (accepted-kept d s (insert_at_end x) sound fit.0 i) fit.1
    ∙ ap (λ (l : List StoredRow). map placed l ++ placed_from d next.space.end xs) (last d s x sound i)
    ∙ ap (λ (l : List (ℕ × Values)). l ++ placed_from d next.space.end xs) (map-append placed s.rows (r ∷ []))
    ∙ append_assoc (map placed s.rows) ((s.space.end, x) ∷ []) (placed_from d next.space.end xs)
    ∙ ap (λ (n : ℕ). map placed s.rows ++ (s.space.end, x) ∷ placed_from d n xs) (end_one d s x)

before_placed : (below : ℕ) (rows : List StoredRow) → map placed (rows_before below rows) ≡ placed_before below (map placed rows)
before_placed below [] = refl
before_placed below (r ∷ rows) = by (nat_lt r.at below) (before_placed below rows)
  where
    by : (b : Bool) → map placed (rows_before below rows) ≡ placed_before below (map placed rows)
        → map placed (cond b (r ∷ rows_before below rows) (rows_before below rows)) ≡ cond b (placed r ∷ placed_before below (map placed rows)) (placed_before below (map placed rows))
    by true same = ap (λ (l : List (ℕ × Values)). placed r ∷ l) same
    by false same = same

-- those of the base and those that are known, which stand before a snapshot's length, are the rows that are seen
and_parts : (a b : Bool) → (a && b) ≡ true → (a ≡ true) × (b ≡ true)
and_parts true b e = (refl, e)
and_parts false b e = absurd (cc e)

short_of : (format : RowFormat) (n : ℕ) → is_short format n ≡ true → format ≡ Dynamic → n < 2 ^ 32
short_of Static n is e = absurd (cc e)
short_of Dynamic n is e = ltb-true n (2 ^ 32) is

passes_at : (p : List ℕ → Bool) (xs : List (List ℕ)) (i : ℕ) → i < length (take_while p xs) → p (slice_index_or (take_while p xs) i []) ≡ true
passes_at p xs i lt =
    let few : i < prefix_len p xs = omega (arith, lt, length-prefix_len p xs) in
    ap p (get_or-take (prefix_len p xs) xs i [] few) ∙ prefix_len_passes p xs i [] few

-- the bytes of a known row are a row of the table
pub record IsKnownRow (d : Defs) (packed : List (List ℕ)) (i : ℕ) (bytes : List ℕ) : Type 0 where
  pub packs : is_some (row_of d bytes) ≡ true
  pub short : d.format ≡ Dynamic → length bytes < 2 ^ 32
  pub same : bytes ≡ slice_index_or packed i []

pub known_row : (d : Defs) (k : Knowing) (i : ℕ) (bytes : List ℕ) → k.defs ≡ d → i < length (packed_of k) → bytes ≡ slice_index_or (packed_of k) i [] → IsKnownRow d (packed_of k) i bytes
known_row d k i bytes of_table lt read =
    let row : is_row d bytes ≡ true = ap (λ (e : Defs). is_row e bytes) (sym of_table) ∙ ap (is_row k.defs) read ∙ passes_at (is_row k.defs) k.whole i lt in
    let parts = and_parts (is_some (row_of d bytes)) (is_short d.format (length bytes)) row in
    record { packs = parts.0; short = short_of d.format (length bytes) parts.1; same = read }

-- the key of a known row
pub key_is : (d : Defs) (packed : List (List ℕ)) (i k : ℕ) (bytes : List ℕ) (view : Values) (key : List KeySeg) → IsKnownRow d packed i bytes → row_of d bytes ≡ Some view → key ≡ key_of d k view → key ≡ key_of d k (unwrap_or (row_of d (slice_index_or packed i [])) [])
key_is d packed i k bytes view key is read found =
    found ∙ ap (λ (o : Option Values). key_of d k (unwrap_or o [])) (sym read) ∙ ap (λ (b : List ℕ). key_of d k (unwrap_or (row_of d b) [])) is.same

pub known_end : (r : TableReader) → IsReader r → told_place (end_with r.known.defs r.known.begin (packed_of r.known)) ≡ told_place (end_known r)
known_end r is =
    ap (λ (d : Defs). told_place (end_with d r.known.begin (packed_of r.known))) is.of_table ∙ ap (λ (n : ℕ). told_place (end_with r.defs n (packed_of r.known))) is.behind
    ∙ ap (λ (l : List (List ℕ)). told_place (end_with r.defs r.rows.rows.file.counts.length l)) (packed_known r is)

pub size_is : (r : TableReader) (i size : ℕ) → IsReader r → size ≡ size_of r.known.defs (slice_index_or (packed_of r.known) i []) → size ≡ size_of r.defs (slice_index_or (rows_known r) i [])
size_is r i size is sized =
    sized ∙ ap (λ (d : Defs). size_of d (slice_index_or (packed_of r.known) i [])) is.of_table ∙ ap (λ (l : List (List ℕ)). size_of r.defs (slice_index_or l i [])) (packed_known r is)

-- a known row that was read
pub row_is : (r : TableReader) (i : ℕ) (row : Values) → IsReader r → row_of r.known.defs (slice_index_or (packed_of r.known) i []) ≡ Some row → row ≡ unwrap_or (row_of r.defs (slice_index_or (rows_known r) i [])) []
row_is r i row is read =
    ap (λ (o : Option Values). unwrap_or o []) (sym read) ∙ ap (λ (d : Defs). unwrap_or (row_of d (slice_index_or (packed_of r.known) i [])) []) is.of_table
    ∙ ap (λ (l : List (List ℕ)). unwrap_or (row_of r.defs (slice_index_or l i [])) []) (packed_known r is)

pub all_seen : (d : Defs) (base : TableState) (known : List Values) (packed : List (List ℕ)) (end : ℕ) (snap : Snapshot) (first rows : List (ℕ × Values)) → IsSound d → IsState d base → packed ≡ packed_rows d known → AllFit d known → end ≡ base.space.end
    → first ≡ placed_before snap.length (map placed base.rows) → rows ≡ first ++ placed_before snap.length (placed_packed d end packed) → rows ≡ map placed (seen_rows d base known snap)
all_seen d base known packed end snap first rows sound i are fit ends_at one two =
    two ∙ ap (λ (l : List (ℕ × Values)). l ++ placed_before snap.length (placed_packed d end packed)) one
    ∙ ap (λ (l : List (List ℕ)). placed_before snap.length (map placed base.rows) ++ placed_before snap.length (placed_packed d end l)) are
    ∙ ap (λ (n : ℕ). placed_before snap.length (map placed base.rows) ++ placed_before snap.length (placed_packed d n (packed_rows d known))) ends_at
    ∙ ap (λ (l : List (ℕ × Values)). placed_before snap.length (map placed base.rows) ++ placed_before snap.length l) (packed_are d base.space.end known sound fit)
    ∙ sym (filter-append (stands_before snap.length) (map placed base.rows) (placed_from d base.space.end known))
    ∙ ap (placed_before snap.length) (sym (rows_are d base known sound i fit))
    ∙ sym (before_placed snap.length (with_rows d base known).rows)

-- ---- one known row after the other

pub take_more : (xs : List (List ℕ)) (i : ℕ) → i < length xs → take (suc i) xs ≡ take i xs ++ slice_index_or xs i [] ∷ []
take_more [] i lt = absurd (omega (arith, lt))
take_more (x ∷ xs) zero lt = refl
take_more (x ∷ xs) (suc i) lt = ap (λ (l : List (List ℕ)). x ∷ l) (take_more xs i (omega (arith, lt)))

packed_more : (d : Defs) (at : ℕ) (xs : List (List ℕ)) (b : List ℕ) → placed_packed d at (xs ++ b ∷ []) ≡ placed_packed d at xs ++ (end_with d at xs, unwrap_or (row_of d b) []) ∷ []
packed_more d at [] b = let e : at ≡ at + 0 = omega arith in ap (λ (n : ℕ). (n, unwrap_or (row_of d b) []) ∷ []) e
packed_more d at (x ∷ xs) b =
    let sum : sum_by (size_of d) (x ∷ xs) ≡ size_of d x + sum_by (size_of d) xs = sum_by-cons (size_of d) x xs in
    let e : (at + size_of d x) + sum_by (size_of d) xs ≡ at + sum_by (size_of d) (x ∷ xs) = omega (arith, sum) in
    ap (λ (l : List (ℕ × Values)). (at, unwrap_or (row_of d x) []) ∷ l)
    (packed_more d (at + size_of d x) xs b ∙ ap (λ (n : ℕ). placed_packed d (at + size_of d x) xs ++ (n, unwrap_or (row_of d b) []) ∷ []) e)

-- a place that is past the end of its type is told as that end, which stands before no other place
pub told_before : (n below : ℕ) (v : Values) → below < 2 ^ 64 → placed_before below ((told_place n, v) ∷ []) ≡ placed_before below ((n, v) ∷ [])
told_before n below v small = by (nat_lt n (2 ^ 64)) refl
  where
    by : (b : Bool) → nat_lt n (2 ^ 64) ≡ b → placed_before below ((told_place n, v) ∷ []) ≡ placed_before below ((n, v) ∷ [])
    by true e =
        let lt : n < 2 ^ 64 = grind (arith, nat_tests, e) in
        let same : told_place n ≡ n = omega (arith, lt) in
        ap (λ (k : ℕ). placed_before below ((k, v) ∷ [])) same
    by false e =
        let ge : 2 ^ 64 ≤ n = grind (arith, nat_tests, e) in
        let told : below ≤ told_place n = omega (arith, ge, small) in
        let far : below ≤ n = omega (arith, ge, small) in
        ap (λ (b : Bool). cond b ((told_place n, v) ∷ []) []) (le-ltb (told_place n) below told)
        ∙ sym (ap (λ (b : Bool). cond b ((n, v) ∷ []) []) (le-ltb n below far))

pub told_sum : (a b : ℕ) → told_place (told_place a + b) ≡ told_place (a + b)
told_sum a b = omega arith

-- the rows up to a number came, with what is made of them, and the next position is told
pub record Came {A : Type 0} (make : List (ℕ × Values) → List A) (d : Defs) (begin below i at : ℕ) (packed : List (List ℕ)) (old rows : List A) : Type 0 where
  pub told : at ≡ told_place (end_with d begin (take i packed))
  pub all : rows ≡ old ++ make (placed_before below (placed_packed d begin (take i packed)))

-- what is made of rows is made of them one by one
abbrev pub IsOneByOne : {A : Type 0} → (List (ℕ × Values) → List A) → Type 0
IsOneByOne make = (make [] ≡ []) × ((xs ys : List (ℕ × Values)) → make (xs ++ ys) ≡ make xs ++ make ys)

pub came_none : {A : Type 0} (make : List (ℕ × Values) → List A) (d : Defs) (begin below at : ℕ) (packed : List (List ℕ)) (old : List A) → IsOneByOne make → at < 2 ^ 64 → at ≡ begin → Came make d begin below 0 at packed old old
came_none {A} make d begin below at packed old one small is = record {
  told = let e : at ≡ told_place (begin + 0) = omega (arith, small, is) in e;
  all = sym (append-nil old) ∙ ap (λ (l : List A). old ++ l) (sym one.0);
}

pub came_more : {A : Type 0} (make : List (ℕ × Values) → List A) (d : Defs) (begin below i at next size : ℕ) (packed : List (List ℕ)) (old rows new : List A) → IsOneByOne make → i < length packed → below < 2 ^ 64 → size ≡ size_of d (slice_index_or packed i []) → next ≡ told_place (at + size)
    → new ≡ rows ++ make (placed_before below ((at, unwrap_or (row_of d (slice_index_or packed i [])) []) ∷ [])) → Came make d begin below i at packed old rows → Came make d begin below (i + 1) next packed old new
came_more {A} make d begin below i at next size packed old rows new one lt small sized told more came =
    let b : List ℕ = slice_index_or packed i [] in
    let v : Values = unwrap_or (row_of d b) [] in
    let front : List (List ℕ) = take i packed in
    let n : ℕ = end_with d begin front in
    let e : suc i ≡ i + 1 = omega arith in
    let longer : front ++ b ∷ [] ≡ take (i + 1) packed = sym (take_more packed i lt) ∙ ap (λ (k : ℕ). take k packed) e in
    let sum : sum_by (size_of d) (front ++ b ∷ []) ≡ sum_by (size_of d) front + size_of d b = sum_by_push (size_of d) front b in
    let ends_at : n + size_of d b ≡ end_with d begin (front ++ b ∷ []) = omega (arith, sum) in
    record {
      told = told ∙ ap (λ (k : ℕ). told_place (k + size)) came.told ∙ told_sum n size ∙ ap (λ (k : ℕ). told_place (n + k)) sized ∙ ap told_place ends_at ∙ ap (λ (l : List (List ℕ)). told_place (end_with d begin l)) longer;
      all = more ∙ ap (λ (k : ℕ). rows ++ make (placed_before below ((k, v) ∷ []))) came.told ∙ ap (λ (l : List (ℕ × Values)). rows ++ make l) (told_before n below v small)
          ∙ ap (λ (l : List A). l ++ make (placed_before below ((n, v) ∷ []))) came.all
          ∙ append_assoc old (make (placed_before below (placed_packed d begin front))) (make (placed_before below ((n, v) ∷ [])))
          ∙ ap (λ (l : List A). old ++ l) (sym (one.1 (placed_before below (placed_packed d begin front)) (placed_before below ((n, v) ∷ []))))
          ∙ ap (λ (l : List (ℕ × Values)). old ++ make l) (sym (filter-append (stands_before below) (placed_packed d begin front) ((n, v) ∷ [])))
          ∙ ap (λ (l : List (ℕ × Values)). old ++ make (placed_before below l)) (sym (packed_more d begin front b))
          ∙ ap (λ (l : List (List ℕ)). old ++ make (placed_before below (placed_packed d begin l))) longer;
    }

pub came_all : {A : Type 0} (make : List (ℕ × Values) → List A) (d : Defs) (begin below i at : ℕ) (packed : List (List ℕ)) (old rows : List A) → length packed ≤ i → Came make d begin below i at packed old rows → rows ≡ old ++ make (placed_before below (placed_packed d begin packed))
came_all make d begin below i at packed old rows whole came = came.all ∙ ap (λ (l : List (List ℕ)). old ++ make (placed_before below (placed_packed d begin l))) (take_all i packed whole)

-- rows as they are, and those that match by their keys
pub as_they_are : IsOneByOne {A = ℕ × Values} (λ (rows : List (ℕ × Values)). rows)
as_they_are = (refl, λ xs ys. refl)

pub keyed_between : (d : Defs) (k : ℕ) (b : Bounds) → IsOneByOne (λ (rows : List (ℕ × Values)). all_keyed d k (all_between d k b rows))
keyed_between d k b = (refl, λ xs ys. ap (all_keyed d k) (filter-append (is_between d k b) xs ys) ∙ map-append (keyed_of d k) (all_between d k b xs) (all_between d k b ys))
