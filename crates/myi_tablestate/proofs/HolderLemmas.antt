-- Rows with one complete key, and the least row of a key among the pairs of a table.
use Rattle.std.proofs.Common.{◌≡◌, ◌≢◌, ℕ, zero, suc, length, ◌<◌, ◌+◌, ◌≤◌, Bool, true, false, cond, ◌&&◌, ◌||◌, List, [], ◌∷◌, map, Option, Some, None, refl, sym, ap, subst, ◌∙◌, arith}
use Rattle.std.specs.Prelude.{◌==◌, option_map}
use Rattle.std.specs.List.{AllByRecursion, All, list_any}
use Rattle.std.proofs.lemmas.Bool.Decides.{nat_tests}
use Rattle.std.proofs.lemmas.List.Elements.{All-contains, All-from_recursion, recursion_from_All}
use Rattle.std.proofs.lemmas.List.Sorted.{All-permutation, IsPermutation-sym}
use Rattle.myi_defs.specs.declared.types.Defs.{Defs}
use Rattle.myi_defs.specs.Sound.{IsSound}
use Rattle.myi_pack.specs.Packed.{Values}
use Rattle.myi_keys.specs.declared.values.KeySeg.{KeySeg}
use Rattle.myi_keys.specs.Limits.{is_complete}
use Rattle.myi_keylist.specs.declared.pair.Pair.{Pair}
use Rattle.myi_keylist.specs.PairOrder.{pair_with, sorted}
use Rattle.myi_keylist.specs.Repeats.{is_same_key}
use Rattle.myi_keylist.proofs.CallerLemmas.{sorted_permutes}
use Rattle.myi_search.specs.Least.{IsLeastRow}
use Rattle.myi_data.specs.Keys.{IsKeyNumber, key_of}
use Rattle.myi_rowkeys.specs.TableKeys.{numbers_from, is_unique}
use Rattle.myi_state.specs.State.{StoredRow, TableState, row_at, rows_without}
use Rattle.myi_state.specs.Sound.{AreInOrder, IsState}
use Rattle.myi_pair.specs.FirstRows.{repeats_key, repeats}
use Rattle.myi_pair.specs.KeyList.{pairs_of, key_list}
use Rattle.myi_tablestate.specs.Keyed.{IsTable, holder}
use Rattle.myi_tablestate.specs.Listed.{placed, pair_of_row, listed, position}
use Rattle.myi_tablestate.proofs.PlaceLemmas.{IsBack, rows_back}
use Rattle.myi_tablestate.proofs.DistinctLemmas.{same_is, same_self, AreOthers, Differ, differ_of}

-- ---- one complete key

-- a row has the complete key of another in a unique key
record Has (d : Defs) (values other : Values) (k : ℕ) : Type 0 where
  unique : is_unique d k ≡ true
  whole : is_complete (key_of d k values) ≡ true
  same : key_of d k values ≡ key_of d k other

and_both : (a b : Bool) → (a && b) ≡ true → (a ≡ true) × (b ≡ true)
and_both true b is = (refl, is)
and_both false b is = absurd cc

has : (d : Defs) (values other : Values) (k : ℕ) → repeats_key d values other k ≡ true → Has d values other k
has d values other k is =
    let both = and_both (is_unique d k) (is_same_key (key_of d k values) (key_of d k other)) is in
    let same = same_is (key_of d k values) (key_of d k other) both.1 in
    record { unique = both.0; whole = same.0; same = same.1 }

has_back : (d : Defs) (values other : Values) (k : ℕ) → Has d values other k → repeats_key d values other k ≡ true
has_back d values other k h = rw h.unique (same_self (key_of d k values) (key_of d k other) h.whole h.same)

-- two rows that have one row's complete key have each other's
has_other : (d : Defs) (values one other : Values) (k : ℕ) → Has d values one k → Has d values other k → Has d one other k
has_other d values one other k a b = record {
  unique = a.unique;
  whole = subst (λ (key : List KeySeg). is_complete key ≡ true) a.same a.whole;
  same = sym a.same ∙ b.same;
}

-- ---- no two

-- none of the rows has it
abbrev pub HasNot : Defs → Values → ℕ → List StoredRow → Type 0
HasNot d values k rows = AllByRecursion (λ (r : StoredRow). repeats_key d values r.values k ≡ false) rows

no_both : (b : Bool) → b ≡ true → b ≡ false → ⊥
no_both true one other = absurd cc
no_both false one other = absurd cc

any_true : (f : ℕ → Bool) (low n k : ℕ) → low ≤ k → k < low + n → f k ≡ true → list_any f (numbers_from low n) ≡ true
any_true f low zero k least most here = absurd (omega (arith, least, most))
any_true f low (suc n) k least most here = choose (f low) refl (any_true f (suc low) n k)
  where
    choose : (b : Bool) → f low ≡ b → (suc low ≤ k → k < suc low + n → f k ≡ true → list_any f (numbers_from (suc low) n) ≡ true) → (b || list_any f (numbers_from (suc low) n)) ≡ true
    choose true is more = refl
    choose false is more =
        let apart : low ≢ k = λ same. no_both (f k) here (ap f (sym same) ∙ is) in
        more (omega (arith, least, apart)) (omega (arith, most)) here

repeats_of : (d : Defs) (row other : Values) (k : ℕ) → IsKeyNumber d k → repeats_key d row other k ≡ true → repeats d row other ≡ true
unfolding repeats
repeats_of d row other k number is = any_true (repeats_key d row other) 1 (length d.keys) k (omega (arith, number.0)) (omega (arith, number.1)) is

is_not : (b : Bool) → (b ≡ true → ⊥) → b ≡ false
is_not true never = absurd (never refl)
is_not false never = refl

-- behind a row that has a key, no row has it
behind_none : (d : Defs) (values : Values) (k : ℕ) (q : StoredRow) (rows : List StoredRow) → IsKeyNumber d k → Has d values q.values k → AreOthers d q.values rows → HasNot d values k rows
behind_none d values k q [] number own all = tt
behind_none d values k q (r ∷ rows) number own all = (
  is_not (repeats_key d values r.values k) (λ is. no_both (repeats d r.values q.values) (repeats_of d r.values q.values k number (has_back d r.values q.values k (has_other d values r.values q.values k (has d values r.values k is) own))) all.0),
  behind_none d values k q rows number own all.1,
)

-- and one of these rows has it, no other row does
found_fact : (P : StoredRow → Type 0) (p : ℕ) (rows : List StoredRow) (r : StoredRow) → row_at p rows ≡ Some r → AllByRecursion P rows → P r
found_fact P p [] r found all = absurd cc
found_fact P p (q ∷ rows) r found all = choose (q.at == p) found (λ more. found_fact P p rows r more all.1)
  where
    choose : (b : Bool) → cond b (Some q) (row_at p rows) ≡ Some r → (row_at p rows ≡ Some r → P r) → P r
    choose true found more = let same : q ≡ r = cc in subst P same all.0
    choose false found more = more found

pub alone : (d : Defs) (values : Values) (k p : ℕ) (rows : List StoredRow) (r : StoredRow) → IsKeyNumber d k → Differ d rows → row_at p rows ≡ Some r → repeats_key d values r.values k ≡ true → HasNot d values k (rows_without p rows)
alone d values k p [] r number distinct found is = tt
alone d values k p (q ∷ rows) r number distinct found is = choose (q.at == p) found (λ more. alone d values k p rows r number distinct.1 more is)
  where
    choose : (b : Bool) → cond b (Some q) (row_at p rows) ≡ Some r → (row_at p rows ≡ Some r → HasNot d values k (rows_without p rows)) → HasNot d values k (cond b rows (q ∷ rows_without p rows))
    choose true found more =
        let same : q ≡ r = cc in
        behind_none d values k q rows number (has d values q.values k (subst (λ (t : StoredRow). repeats_key d values t.values k ≡ true) (sym same) is)) distinct.0
    choose false found more =
        let one = found_fact (λ (t : StoredRow). repeats d t.values q.values ≡ false) p rows r found distinct.0 in (
          is_not (repeats_key d values q.values k) (λ own. no_both (repeats d r.values q.values) (repeats_of d r.values q.values k number (has_back d r.values q.values k (has_other d values r.values q.values k (has d values r.values k is) (has d values q.values k own)))) one),
          more found,
        )

-- ---- the row that has it

pub held_by_none : (d : Defs) (values : Values) (k : ℕ) (rows : List StoredRow) → HasNot d values k rows → holder d values k rows ≡ None
held_by_none d values k [] none = refl
held_by_none d values k (r ∷ rows) none = rw none.0 (held_by_none d values k rows none.1)

pub held_by : (d : Defs) (values : Values) (k p : ℕ) (rows : List StoredRow) (r : StoredRow) → row_at p rows ≡ Some r → repeats_key d values r.values k ≡ true → HasNot d values k (rows_without p rows) → holder d values k rows ≡ Some p
held_by d values k p [] r found is none = absurd cc
held_by d values k p (q ∷ rows) r found is none = choose (q.at == p) refl found none (held_by d values k p rows r)
  where
    choose : (b : Bool) → (q.at == p) ≡ b → cond b (Some q) (row_at p rows) ≡ Some r → HasNot d values k (cond b rows (q ∷ rows_without p rows)) → (row_at p rows ≡ Some r → repeats_key d values r.values k ≡ true → HasNot d values k (rows_without p rows) → holder d values k rows ≡ Some p)
        → cond (repeats_key d values q.values k) (Some q.at) (holder d values k rows) ≡ Some p
    choose true here found none more =
        let same : q ≡ r = cc in
        let own : repeats_key d values q.values k ≡ true = subst (λ (t : StoredRow). repeats_key d values t.values k ≡ true) (sym same) is in
        let at : q.at ≡ p = grind (arith, nat_tests, here) in
        rw own (ap Some at)
    choose false there found none more = rw none.0 (more found is none.1)

pub not_unique : (d : Defs) (values : Values) (k : ℕ) (rows : List StoredRow) → is_unique d k ≡ false → HasNot d values k rows
not_unique d values k [] plain = tt
not_unique d values k (r ∷ rows) plain = (rw plain refl, not_unique d values k rows plain)

pub not_complete : (d : Defs) (values : Values) (k : ℕ) (rows : List StoredRow) → is_complete (key_of d k values) ≡ false → HasNot d values k rows
not_complete d values k [] part = tt
not_complete d values k (r ∷ rows) part =
    (is_not (repeats_key d values r.values k) (λ is. no_both (is_complete (key_of d k values)) (has d values r.values k is).whole part), not_complete d values k rows part)

-- ---- among the pairs of a table

-- a pair is that of a row, which stands at its position
record IsOfRow (d : Defs) (k : ℕ) (rows : List StoredRow) (q : Pair) : Type 0 where
  row : StoredRow
  there : row_at row.at rows ≡ Some row
  back : IsBack d.format d.slot_length row.at
  is : pair_of_row d k row ≡ q

abbrev IsThere : Defs → List StoredRow → StoredRow → Type 0
IsThere d rows r = (row_at r.at rows ≡ Some r) × IsBack d.format d.slot_length r.at

found_own : (p : ℕ) (r : StoredRow) (rows : List StoredRow) → r.at ≡ p → row_at p (r ∷ rows) ≡ Some r
found_own p r rows at = let same : (r.at == p) ≡ true = grind (arith, nat_tests, at) in rw same refl

found_later : (p : ℕ) (q : StoredRow) (rows : List StoredRow) → q.at < p → row_at p (q ∷ rows) ≡ row_at p rows
found_later p q rows before = let other : (q.at == p) ≡ false = grind (arith, nat_tests, before) in rw other refl

all_there : (d : Defs) (low : ℕ) (rows : List StoredRow) → AreInOrder low rows → AllByRecursion (λ (r : StoredRow). IsBack d.format d.slot_length r.at) rows → AllByRecursion (λ (r : StoredRow). (low ≤ r.at) × IsThere d rows r) rows
all_there d low [] order back = tt
all_there d low (q ∷ rows) order back =
    ((order.0, (found_own q.at q rows refl, back.0)), weaken rows (all_there d (q.at + 1) rows order.1 back.1))
  where
    weaken : (rs : List StoredRow) → AllByRecursion (λ (r : StoredRow). (q.at + 1 ≤ r.at) × IsThere d rows r) rs → AllByRecursion (λ (r : StoredRow). (low ≤ r.at) × IsThere d (q ∷ rows) r) rs
    weaken [] all = tt
    weaken (r ∷ rs) all = ((omega (arith, all.0.0, order.0), (found_later r.at q rows (omega (arith, all.0.0)) ∙ all.0.1.0, all.0.1.1)), weaken rs all.1)

all_pairs : (d : Defs) (k low : ℕ) (all rows : List StoredRow) → AllByRecursion (λ (r : StoredRow). (low ≤ r.at) × IsThere d all r) rows → AllByRecursion (IsOfRow d k all) (pairs_of d k (map placed rows))
all_pairs d k low all [] there = tt
all_pairs d k low all (r ∷ rows) there = (record { row = r; there = there.0.1.0; back = there.0.1.1; is = refl }, all_pairs d k low all rows there.1)

table_pairs : (d : Defs) (s : TableState) (k : ℕ) → IsSound d → IsState d s → All (IsOfRow d k s.rows) (listed d k s.rows)
unfolding key_list
table_pairs d s k sound i =
    let pairs = pairs_of d k (map placed s.rows) in
    All-permutation (IsOfRow d k s.rows) pairs (sorted pairs) (sorted_permutes pairs)
    (All-from_recursion (IsOfRow d k s.rows) pairs (all_pairs d k 0 s.rows s.rows (all_there d 0 s.rows i.order (rows_back d s sound i))))

pair_keys : (d : Defs) (k : ℕ) (key : List KeySeg) (rows : List StoredRow) → AllByRecursion (λ (p : Pair). p.key ≢ key) (pairs_of d k (map placed rows)) → AllByRecursion (λ (r : StoredRow). key_of d k r.values ≢ key) rows
pair_keys d k key [] all = tt
pair_keys d k key (r ∷ rows) all = (all.0, pair_keys d k key rows all.1)

others_not : (d : Defs) (values : Values) (k : ℕ) (rows : List StoredRow) → AllByRecursion (λ (r : StoredRow). key_of d k r.values ≢ key_of d k values) rows → HasNot d values k rows
others_not d values k [] all = tt
others_not d values k (r ∷ rows) all =
    (is_not (repeats_key d values r.values k) (λ is. all.0 (sym (has d values r.values k is).same)), others_not d values k rows all.1)

-- no pair has the key, so no row has it
pub none_listed : (d : Defs) (values : Values) (k : ℕ) (rows : List StoredRow) → IsLeastRow (key_of d k values) (listed d k rows) None → HasNot d values k rows
unfolding key_list
none_listed d values k rows none =
    let pairs = pairs_of d k (map placed rows) in
    others_not d values k rows (pair_keys d k (key_of d k values) rows
    (recursion_from_All (λ (p : Pair). p.key ≢ key_of d k values) pairs (All-permutation (λ (p : Pair). p.key ≢ key_of d k values) (sorted pairs) pairs (IsPermutation-sym pairs (sorted pairs) (sorted_permutes pairs)) none)))

-- the row that the least pair names has the key, and no other row
pub record IsHeld (d : Defs) (values : Values) (k p : ℕ) (rows : List StoredRow) : Type 0 where
  pub row : StoredRow
  pub there : row_at (position d p) rows ≡ Some row
  pub is : repeats_key d values row.values k ≡ true
  pub others : HasNot d values k (rows_without (position d p) rows)

pub some_listed : (d : Defs) (s : TableState) (values : Values) (k p : ℕ) → IsSound d → IsTable d s → IsKeyNumber d k → is_unique d k ≡ true → is_complete (key_of d k values) ≡ true → IsLeastRow (key_of d k values) (listed d k s.rows) (Some p) → IsHeld d values k p s.rows
some_listed d s values k p sound t number unique whole least =
    let of = All-contains (IsOfRow d k s.rows) (listed d k s.rows) (pair_with (key_of d k values) p) (table_pairs d s k sound t.state) least.0 in
    let same : key_of d k values ≡ key_of d k of.row.values = sym (ap (λ (q : Pair). q.key) of.is) in
    let at : of.row.at ≡ position d p = sym of.back ∙ ap (λ (q : Pair). position d q.row) of.is in
    let there : row_at (position d p) s.rows ≡ Some of.row = subst (λ (n : ℕ). row_at n s.rows ≡ Some of.row) at of.there in
    let is = has_back d values of.row.values k (record { unique = unique; whole = whole; same = same }) in
    record { row = of.row; there = there; is = is; others = alone d values k (position d p) s.rows of.row number (differ_of d s.rows t.distinct) there is }

-- ---- the clauses

pub found : (d : Defs) (s : TableState) (values : Values) (k : ℕ) (least : Option ℕ) → IsSound d → IsTable d s → IsKeyNumber d k → is_unique d k ≡ true → is_complete (key_of d k values) ≡ true → IsLeastRow (key_of d k values) (listed d k s.rows) least
    → holder d values k s.rows ≡ option_map (position d) least
found d s values k None sound t number unique whole least = held_by_none d values k s.rows (none_listed d values k s.rows least)
found d s values k (Some p) sound t number unique whole least =
    let h = some_listed d s values k p sound t number unique whole least in
    held_by d values k (position d p) s.rows h.row h.there h.is h.others

without_not : (d : Defs) (values : Values) (k p : ℕ) (rows : List StoredRow) → HasNot d values k rows → HasNot d values k (rows_without p rows)
without_not d values k p [] none = tt
without_not d values k p (q ∷ rows) none = choose (q.at == p) (without_not d values k p rows none.1)
  where
    choose : (b : Bool) → HasNot d values k (rows_without p rows) → HasNot d values k (cond b rows (q ∷ rows_without p rows))
    choose true more = none.1
    choose false more = (none.0, more)

pub none_other : (d : Defs) (values : Values) (k at : ℕ) (rows : List StoredRow) → IsLeastRow (key_of d k values) (listed d k rows) None → holder d values k (rows_without at rows) ≡ None
none_other d values k at rows least = held_by_none d values k (rows_without at rows) (without_not d values k at rows (none_listed d values k rows least))

pub own_none : (d : Defs) (s : TableState) (values : Values) (k at p : ℕ) → IsSound d → IsTable d s → IsKeyNumber d k → is_unique d k ≡ true → is_complete (key_of d k values) ≡ true → IsLeastRow (key_of d k values) (listed d k s.rows) (Some p) → position d p ≡ at
    → holder d values k (rows_without at s.rows) ≡ None
own_none d s values k at p sound t number unique whole least same =
    held_by_none d values k (rows_without at s.rows) (subst (λ (n : ℕ). HasNot d values k (rows_without n s.rows)) same (some_listed d s values k p sound t number unique whole least).others)

-- without another row a row is still found
without_found : (p at : ℕ) (rows : List StoredRow) (r : StoredRow) → p ≢ at → row_at p rows ≡ Some r → row_at p (rows_without at rows) ≡ Some r
without_found p at [] r differ found = absurd cc
without_found p at (q ∷ rows) r differ found = choose (q.at == at) refl (q.at == p) refl found (without_found p at rows r differ)
  where
    choose : (gone : Bool) → (q.at == at) ≡ gone → (here : Bool) → (q.at == p) ≡ here → cond here (Some q) (row_at p rows) ≡ Some r → (row_at p rows ≡ Some r → row_at p (rows_without at rows) ≡ Some r) → row_at p (cond gone rows (q ∷ rows_without at rows)) ≡ Some r
    choose true gone true here found more = absurd (differ (grind (arith, nat_tests, gone, here)))
    choose true gone false here found more = found
    choose false stays true here found more = rw here found
    choose false stays false here found more = rw here (more found)

-- rows without two, in either order
both_gone : (d : Defs) (values : Values) (k p at : ℕ) (rows : List StoredRow) → HasNot d values k (rows_without p rows) → HasNot d values k (rows_without p (rows_without at rows))
both_gone d values k p at [] none = tt
both_gone d values k p at (q ∷ rows) none = choose (q.at == at) (q.at == p) refl none (both_gone d values k p at rows)
  where
    choose : (gone here : Bool) → (q.at == p) ≡ here → HasNot d values k (cond here rows (q ∷ rows_without p rows)) → (HasNot d values k (rows_without p rows) → HasNot d values k (rows_without p (rows_without at rows))) → HasNot d values k (rows_without p (cond gone rows (q ∷ rows_without at rows)))
    choose true true here none more = without_not d values k p rows none
    choose true false here none more = none.1
    choose false true here none more = rw here (without_not d values k at rows none)
    choose false false here none more = rw here (none.0, more none.1)

pub other_holds : (d : Defs) (s : TableState) (values : Values) (k at p : ℕ) → IsSound d → IsTable d s → IsKeyNumber d k → is_unique d k ≡ true → is_complete (key_of d k values) ≡ true → IsLeastRow (key_of d k values) (listed d k s.rows) (Some p) → position d p ≢ at
    → holder d values k (rows_without at s.rows) ≡ Some (position d p)
other_holds d s values k at p sound t number unique whole least differ =
    let h = some_listed d s values k p sound t number unique whole least in
    held_by d values k (position d p) (rows_without at s.rows) h.row (without_found (position d p) at s.rows h.row differ h.there) h.is (both_gone d values k (position d p) at s.rows h.others)
