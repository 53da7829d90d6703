-- The row of a pair, and where it stands.
use Rattle.std.proofs.Common.{◌≡◌, ◌≢◌, ℕ, zero, suc, ◌+◌, ◌*◌, ◌≤◌, Bool, true, false, cond, ◌==◌, min, Option, Some, List, [], ◌∷◌, length, map, refl, sym, ap, subst, ◌∙◌, arith}
use Rattle.std.specs.Prelude.{Contains, unwrap_or}
use Rattle.std.specs.List.{AllByRecursion}
use Rattle.std.proofs.lemmas.Bool.Decides.{nat_tests}
use Rattle.std.proofs.lemmas.List.Sorted.{IsPermutation-sym, Contains-permutation}
use Rattle.myi_base.specs.Holding.{Holding, bytes_of, OthersStay}
use Rattle.myi_defs.specs.declared.types.RowFormat.{RowFormat}
use Rattle.myi_defs.specs.declared.types.RowFormat.TheVariants.{Static, Dynamic}
use Rattle.myi_defs.specs.declared.types.Defs.{Defs}
use Rattle.myi_defs.specs.Sound.{IsSound}
use Rattle.myi_pack.specs.Packed.{Values}
use Rattle.myi_keylist.specs.declared.pair.Pair.{Pair}
use Rattle.myi_keylist.specs.PairOrder.{sorted}
use Rattle.myi_keylist.proofs.CallerLemmas.{sorted_permutes}
use Rattle.myi_state.specs.declared.counts.Counts.{Counts}
use Rattle.myi_state.specs.State.{StoredRow, TableState, row_at}
use Rattle.myi_state.specs.Numbers.{counts_of}
use Rattle.myi_state.specs.Sound.{AreInOrder}
use Rattle.myi_state.specs.Standing.{StandsFor}
use Rattle.myi_slots.specs.SlotBytes.{is_slot, row_there}
use Rattle.myi_slots.specs.SlotFile.{SlotFile, IsFileOf, IsLong}
use Rattle.myi_slots.proofs.CallerLemmas.{IsThere, row-there, static-of}
use Rattle.myi_blocks.specs.RowReading.{StandsAt}
use Rattle.myi_rows.specs.RowFile.{HasRow, HasRowBy, IsRowAt, IsRowBy}
use Rattle.myi_pair.specs.KeyList.{pointer, pairs_of, key_list}
use Rattle.myi_tablestate.specs.Listed.{placed, pair_of_row, listed, position, position_by}
use Rattle.myi_ranges.specs.Ranges.{position_within, position_by_end}

-- ---- rows by their positions

pub all_found : (P : StoredRow → Type 0) (at : ℕ) (rows : List StoredRow) (r : StoredRow) → AllByRecursion P rows → row_at at rows ≡ Some r → P r
all_found P at [] r all e = absurd cc
all_found P at (q ∷ rows) r all e = by (q.at == at) e (λ f. all_found P at rows r all.1 f)
  where
    by : (b : Bool) → cond b (Some q) (row_at at rows) ≡ Some r → (row_at at rows ≡ Some r → P r) → P r
    by true e more = let same : q ≡ r = cc in subst P same all.0
    by false e more = more e

pub itself : (n : ℕ) → (n == n) ≡ true
itself n = grind (arith, nat_tests)

pub later : (m n : ℕ) → m + 1 ≤ n → (m == n) ≡ false
later m n lt = grind (arith, nat_tests)

-- the row of a pair, which stands at a place or behind it
pub record RowOf (d : Defs) (k from : ℕ) (rows : List StoredRow) (p : Pair) : Type 0 where
  pub row : StoredRow
  pub there : row_at row.at rows ≡ Some row
  pub low : from ≤ row.at
  pub pair : pair_of_row d k row ≡ p

row_in : (d : Defs) (k low : ℕ) (rows : List StoredRow) (p : Pair) → AreInOrder low rows → Contains (pairs_of d k (map placed rows)) p → RowOf d k low rows p
row_in d k low [] p order has = absurd (let lt = has.1 in omega (arith, lt))
row_in d k low (q ∷ rows) p order (zero, lt, e) = record { row = q; there = ap (λ (b : Bool). cond b (Some q) (row_at q.at rows)) (itself q.at); low = order.0; pair = e }
row_in d k low (q ∷ rows) p order (suc i, lt, e) =
    let r = row_in d k (q.at + 1) rows p order.1 (i, omega (arith, lt), e) in
    record { row = r.row; there = ap (λ (b : Bool). cond b (Some q) (row_at r.row.at rows)) (later q.at r.row.at r.low) ∙ r.there; low = omega (arith, order.0, r.low); pair = r.pair }

pub listed_row : (d : Defs) (k : ℕ) (rows : List StoredRow) (p : Pair) → AreInOrder 0 rows → Contains (listed d k rows) p → RowOf d k 0 rows p
unfolding key_list
listed_row d k rows p order has =
    let pairs = pairs_of d k (map placed rows) in
    row_in d k 0 rows p order (Contains-permutation (sorted pairs) pairs p (IsPermutation-sym pairs (sorted pairs) (sorted_permutes pairs)) has)

-- ---- rows in the file

pub file_stays : (f : SlotFile) (s : TableState) (q : List ℕ) (m n : Holding) → OthersStay q m n → f.name ≢ q → IsFileOf f s m → IsFileOf f s n
file_stays f s q m n stay off is = record { counts = is.counts; stands = subst (λ (x : List ℕ). StandsFor f.defs s x) (ap (λ (o : Option (List ℕ)). unwrap_or o []) (sym (stay f.name off))) is.stands }

pub file_long : (f : SlotFile) (s : TableState) (m : Holding) → IsFileOf f s m → IsLong f m
unfolding counts_of
file_long f s m is = is.stands.long ∙ sym (ap (λ (c : Counts). c.length) is.counts)

abbrev pub RowsStand : Type 0
RowsStand = (f : SlotFile) (s : TableState) (m : Holding) (at : ℕ) (r : StoredRow) → f.defs.format ≡ Dynamic → IsFileOf f s m → row_at at s.rows ≡ Some r → StandsAt f at m r

slot_there : (f : SlotFile) (s : TableState) (m : Holding) (at : ℕ) (r : StoredRow) → IsSound f.defs → f.defs.format ≡ Static → IsFileOf f s m → row_at at s.rows ≡ Some r → IsThere f.defs (bytes_of f.name m) at r
slot_there f s m at r sound static is e = row-there f.defs s (bytes_of f.name m) at r sound static (static-of f.defs s (bytes_of f.name m) static is.stands) e

pub has_row : (f : SlotFile) (s : TableState) (m : Holding) (at : ℕ) (r : StoredRow) → RowsStand → IsSound f.defs → IsFileOf f s m → row_at at s.rows ≡ Some r → HasRow f at m
has_row f s m at r stand sound is e = by f.defs.format refl
  where
    by : (k : RowFormat) → f.defs.format ≡ k → HasRowBy k f at m
    by Static static = (slot_there f s m at r sound static is e).is
    by Dynamic dynamic = (r, stand f s m at r dynamic is e)

there_is : (d : Defs) (x : List ℕ) (at : ℕ) (r : StoredRow) → IsThere d x at r → row_there d x at ≡ Some r.values
unfolding row_there
there_is d x at r h = let slot = h.slot in rw slot h.packs_it

pub row_values : (f : SlotFile) (s : TableState) (m : Holding) (at : ℕ) (r : StoredRow) (values : Values) → RowsStand → IsSound f.defs → IsFileOf f s m → row_at at s.rows ≡ Some r → IsRowAt f at values m → r.values ≡ values
row_values f s m at r values stand sound is e row = by f.defs.format refl row
  where
    same : {a b : Values} → Some a ≡ Some b → a ≡ b
    same e = cc

    by : (k : RowFormat) → f.defs.format ≡ k → IsRowBy k f at values m → r.values ≡ values
    by Static static found = same (sym (there_is f.defs (bytes_of f.name m) at r (slot_there f s m at r sound static is e)) ∙ sym found)
    by Dynamic dynamic found = found r (stand f s m at r dynamic is e)

-- ---- positions

-- the slot ends in the file
inside : (size end at : ℕ) → is_slot size end at ≡ true → at ≤ end
inside size end at is = grind (arith, nat_tests)

least : (p end at : ℕ) → p ≡ at → at ≤ end → min p end ≡ at
least p end at is le = grind (arith)

pub position_named : (f : SlotFile) (s : TableState) (m : Holding) (p : ℕ) (r : StoredRow) → IsSound f.defs → IsFileOf f s m → row_at r.at s.rows ≡ Some r → position f.defs p ≡ r.at → position_within f.defs f.counts.length p ≡ r.at
position_named f s m p r sound is e here = by f.defs.format refl here
  where
    by : (k : RowFormat) → f.defs.format ≡ k → position_by k f.defs.slot_length p ≡ r.at → position_by_end k f.defs.slot_length f.counts.length p ≡ r.at
    by Static static here = least (p * f.defs.slot_length) f.counts.length r.at here (subst (λ (n : ℕ). r.at ≤ n) (file_long f s m is) (inside f.defs.slot_length (length (bytes_of f.name m)) r.at (slot_there f s m r.at r sound static is e).slot))
    by Dynamic dynamic here = here

pub position_is : (f : SlotFile) (s : TableState) (m : Holding) (r : StoredRow) → IsSound f.defs → IsFileOf f s m → row_at r.at s.rows ≡ Some r → AllByRecursion (λ (q : StoredRow). position f.defs (pointer f.defs q.at) ≡ q.at) s.rows → position_within f.defs f.counts.length (pointer f.defs r.at) ≡ r.at
position_is f s m r sound is e back = position_named f s m (pointer f.defs r.at) r sound is e (all_found (λ (q : StoredRow). position f.defs (pointer f.defs q.at) ≡ q.at) r.at s.rows r back e)
