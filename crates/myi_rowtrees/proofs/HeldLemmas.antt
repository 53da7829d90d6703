-- Whether another row has the complete key of a row, by the least row of the key in its tree.
use Rattle.std.proofs.Common.{◌≡◌, ◌≢◌, inl, inr, ℕ, zero, suc, ◌+◌, ◌*◌, ◌<◌, Bool, true, false, not, List, [], ◌∷◌, length, Option, Some, None, refl, sym, ap, subst, ◌∙◌, arith}
use Rattle.std.specs.Prelude.{◌==◌, IsTrue, IfSome, option_map, slice_get, slice_index_or, if◌then◌else◌}
use Rattle.std.specs.Option.{option_map_or}
use Rattle.std.proofs.lemmas.Bool.Decides.{nat_tests}
use Rattle.myi_base.specs.Holding.{Holding, Told, OthersStay}
use Rattle.myi_defs.specs.declared.types.RowFormat.{RowFormat}
use Rattle.myi_defs.specs.declared.types.RowFormat.TheVariants.{Static, Dynamic}
use Rattle.myi_defs.specs.declared.types.Key.{Key}
use Rattle.myi_defs.specs.declared.types.Defs.{Defs}
use Rattle.myi_defs.specs.Sound.{IsSound}
use Rattle.myi_pack.specs.Packed.{Values}
use Rattle.myi_keys.specs.Limits.{is_complete}
use Rattle.myi_btree.specs.CachedTrees.{ReadsOnly}
use Rattle.myi_search.specs.Least.{IsLeastRow}
use Rattle.myi_data.specs.Keys.{IsKeyNumber, key_of}
use Rattle.myi_rowkeys.specs.TableKeys.{is_unique}
use Rattle.myi_state.specs.State.{StoredRow, TableState, rows_without}
use Rattle.myi_keytrees.specs.Trees.{Trees}
use Rattle.myi_keytrees.specs.Standing.{Stand, StillStand, CanSearch}
use Rattle.myi_tablestate.specs.Keyed.{IsTable, holder}
use Rattle.myi_tablestate.specs.Listed.{listed, position_by, position}
use Rattle.myi_rowtrees.specs.Duplicates.{others, another}

-- ---- trees may still be searched

search_by : (writable : Bool) (h told next : Option Holding) (old new : Trees) → h ≡ told → IsTrue writable → Told told next (OthersStay old.cache.name) → ReadsOnly told next old.cache new.cache → StillStand told next old new → CanSearch writable told old → CanSearch writable next new
search_by writable h told next old new e w others reads stand (inl written) = inl (λ p n is. written p n (reads.unwritten p n is))
search_by writable None told next old new e w others reads stand (inr can) = inr (w, λ n held. absurd (none_some n (sym (others.untold (sym e)) ∙ held)))
  where
    none_some : (n : Holding) → ◌≡◌ {A = Option Holding} None (Some n) → ⊥
    none_some n is = absurd cc
search_by writable (Some m) told next old new e w others reads stand (inr can) = inr (
  w,
  λ n held.
      let was = can.1 m (sym e) in
      let after = stand m (sym e) was.0 was.1 was.2 in
      let same : after.now ≡ n = some_same after.now n (sym after.held ∙ held) in
      (was.0, was.1, subst (λ (k : Holding). Stand new k was.0 was.1) same after.stand),
)
  where
    some_same : (a b : Holding) → ◌≡◌ {A = Option Holding} (Some a) (Some b) → a ≡ b
    some_same a b is = cc

pub search_on : (writable : Bool) (told next : Option Holding) (old new : Trees) → IsTrue writable → ReadsOnly told next old.cache new.cache → StillStand told next old new → CanSearch writable told old → CanSearch writable next new
search_on writable told next old new w reads stand can = search_by writable told told next old new refl w reads.others reads stand can

-- ---- a key by its number

unique_in : (keys : List Key) (i : ℕ) (key : Key) → i < length keys → slice_index_or keys i key ≡ key → option_map_or (λ (k : Key). k.unique) (slice_get keys i) false ≡ key.unique
unique_in [] i key few is = absurd (omega (arith, few))
unique_in (k ∷ keys) zero key few is = ap (λ (k : Key). k.unique) is
unique_in (k ∷ keys) (suc i) key few is = unique_in keys i key (omega (arith, few)) is

pub unique_at : (d : Defs) (i : ℕ) (key : Key) → i < length d.keys → slice_index_or d.keys i key ≡ key → is_unique d (i + 1) ≡ key.unique
unique_at d i key few is = let e : i + 1 ≡ suc i = omega arith in ap (λ (n : ℕ). is_unique d n) e ∙ unique_in d.keys i key few is

-- ---- positions of different pointers

times_same : (n p q : ℕ) → 0 < n → p * n ≡ q * n → p ≡ q
times_same n zero zero some same = refl
times_same n zero (suc q) some same = absurd (omega (arith, some, same))
times_same n (suc p) zero some same = absurd (omega (arith, some, same))
times_same n (suc p) (suc q) some same = let more = times_same n p q some (omega (arith, same)) in omega (arith, more)

apart_by : (f : RowFormat) (size p q : ℕ) → (f ≡ Static → 0 < size) → position_by f size p ≡ position_by f size q → p ≡ q
apart_by Static size p q some same = times_same size p q (some refl) same
apart_by Dynamic size p q some same = same

positions_apart : (d : Defs) (p q : ℕ) → IsSound d → p ≢ q → position d p ≢ position d q
positions_apart d p q sound differ same = differ (apart_by d.format d.slot_length p q (λ static. omega (arith, sound.slot_pointer static)) same)

-- ---- what the law says of the least row

pub record Found (d : Defs) : Type 0 where
  pub plain : (values : Values) (k : ℕ) (rows : List StoredRow) → is_unique d k ≡ false → holder d values k rows ≡ None
  pub absent : (values : Values) (k : ℕ) (rows : List StoredRow) → is_complete (key_of d k values) ≡ false → holder d values k rows ≡ None
  pub found : (s : TableState) (values : Values) (k : ℕ) (least : Option ℕ) → IsTable d s → IsKeyNumber d k → is_unique d k ≡ true → is_complete (key_of d k values) ≡ true → IsLeastRow (key_of d k values) (listed d k s.rows) least → holder d values k s.rows ≡ option_map (position d) least
  pub other : (s : TableState) (values : Values) (k at p : ℕ) → IsTable d s → IsKeyNumber d k → is_unique d k ≡ true → is_complete (key_of d k values) ≡ true → IsLeastRow (key_of d k values) (listed d k s.rows) (Some p) → position d p ≢ at → holder d values k (rows_without at s.rows) ≡ Some (position d p)
  pub own : (s : TableState) (values : Values) (k at p : ℕ) → IsTable d s → IsKeyNumber d k → is_unique d k ≡ true → is_complete (key_of d k values) ≡ true → IsLeastRow (key_of d k values) (listed d k s.rows) (Some p) → position d p ≡ at → holder d values k (rows_without at s.rows) ≡ None
  pub none : (s : TableState) (values : Values) (k at : ℕ) → IsTable d s → IsKeyNumber d k → is_unique d k ≡ true → is_complete (key_of d k values) ≡ true → IsLeastRow (key_of d k values) (listed d k s.rows) None → holder d values k (rows_without at s.rows) ≡ None

given_by : (d : Defs) → IsSound d → Found d → (s : TableState) (values : Values) (k q p : ℕ) (same : Bool) → (p == q) ≡ same → IsTable d s → IsKeyNumber d k → is_unique d k ≡ true → is_complete (key_of d k values) ≡ true → IsLeastRow (key_of d k values) (listed d k s.rows) (Some p)
    → option_map (position d) (if same then None else Some p) ≡ holder d values k (rows_without (position d q) s.rows)
given_by d sound f s values k q p true is t number unique whole least = sym (f.own s values k (position d q) p t number unique whole least (ap (position d) (grind (arith, nat_tests, is))))
given_by d sound f s values k q p false is t number unique whole least = sym (f.other s values k (position d q) p t number unique whole least (positions_apart d p q sound (λ e. grind (arith, nat_tests, is, e))))

pub held : (d : Defs) → IsSound d → Found d → (s : TableState) (values : Values) (k : ℕ) (own least : Option ℕ) → IsTable d s → IsKeyNumber d k → is_unique d k ≡ true → is_complete (key_of d k values) ≡ true → IsLeastRow (key_of d k values) (listed d k s.rows) least
    → option_map (position d) (another own least) ≡ holder d values k (others d own s.rows)
held d sound f s values k None None t number unique whole least = sym (f.found s values k None t number unique whole least)
held d sound f s values k None (Some p) t number unique whole least = sym (f.found s values k (Some p) t number unique whole least)
held d sound f s values k (Some q) None t number unique whole least = sym (f.none s values k (position d q) t number unique whole least)
held d sound f s values k (Some q) (Some p) t number unique whole least = given_by d sound f s values k q p (p == q) refl t number unique whole least

pub number_of : (d : Defs) (i : ℕ) → i < length d.keys → IsKeyNumber d (i + 1)
number_of d i few = (omega arith, omega (arith, few))

pub true_of : (b : Bool) → not b ≡ false → b ≡ true
true_of true is = refl
true_of false is = absurd cc

-- ---- what holds of any row that is found

pub some_all : (o : Option ℕ) (P : Type 0) → P → IfSome o (λ at. P)
some_all None P p = tt
some_all (Some at) P p = p

pub some_one : (o : Option ℕ) (at : ℕ) (P : Type 0) → o ≡ Some at → IfSome o (λ (x : ℕ). P) → P
some_one o at P is p = subst (λ (q : Option ℕ). IfSome q (λ (x : ℕ). P)) is p
