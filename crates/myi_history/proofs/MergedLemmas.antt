-- What a range of a list finds are the rows whose key lies between the bounds, in order of their places, and there is one such list.
use Rattle.std.proofs.Common.{◌≡◌, ℕ, ◌+◌, ◌≤◌, ◌==◌, List, [], ◌∷◌, ◌++◌, map, filter, Option, Some, None, Bool, true, false, cond, refl, ap, sym, ◌∙◌, arith, inl, inr, IsPermutation, IsSorted}
use Rattle.std.specs.Prelude.{option_map, if◌then◌else◌}
use Rattle.std.specs.List.{All, AllByRecursion}
use Rattle.std.specs.Ordering.{is_gt}
use Rattle.std.proofs.lemmas.Bool.Decides.{eqb_tells}
use Rattle.std.proofs.lemmas.List.Elements.{All-filter, All-from_recursion, recursion_from_All}
use Rattle.std.proofs.lemmas.List.Sorted.{All-permutation, IsPermutation-refl, IsPermutation-trans, IsPermutation-cons, IsPermutation-middle, IsPermutation-map}
use Rattle.myi_defs.specs.declared.types.Defs.{Defs}
use Rattle.myi_data.specs.Keys.{key_of}
use Rattle.myi_pack.specs.Packed.{Values}
use Rattle.myi_state.specs.State.{StoredRow, TableState, row_at}
use Rattle.myi_state.specs.Sound.{IsState}
use Rattle.myi_tablestate.specs.Matching.{Bounds, lies_between}
use Rattle.myi_history.specs.Reads.{MergedRow, MergedPlace, of_number, rows_from, place_of, place_cmp, put_by_place, by_place, merged_between}
use Rattle.myi_history.proofs.PlaceLemmas.{put_place, in_places, sorted_is}
use Rattle.myi_history.proofs.ReadLemmas.{IsAmong, each_among}

-- ---- in order

placed_put : (d : Defs) (k : ℕ) (r : MergedRow) (rows : List MergedRow) → map (place_of d k) (put_by_place d k r rows) ≡ put_place (place_of d k r) (map (place_of d k) rows)
placed_put d k r [] = refl
placed_put d k r (q ∷ rows) = go (is_gt (place_cmp (place_of d k r) (place_of d k q))) (placed_put d k r rows)
  where
    go : (b : Bool) → map (place_of d k) (put_by_place d k r rows) ≡ put_place (place_of d k r) (map (place_of d k) rows)
        → map (place_of d k) (cond b (q ∷ put_by_place d k r rows) (r ∷ q ∷ rows))
        ≡ cond b (place_of d k q ∷ put_place (place_of d k r) (map (place_of d k) rows)) (place_of d k r ∷ place_of d k q ∷ map (place_of d k) rows)
    go true e = ap (λ ps. place_of d k q ∷ ps) e
    go false e = refl

placed_sorted : (d : Defs) (k : ℕ) (rows : List MergedRow) → map (place_of d k) (by_place d k rows) ≡ in_places (map (place_of d k) rows)
placed_sorted d k [] = refl
placed_sorted d k (r ∷ rows) = placed_put d k r (by_place d k rows) ∙ ap (λ ps. put_place (place_of d k r) ps) (placed_sorted d k rows)

put_permutes : (d : Defs) (k : ℕ) (r : MergedRow) (rows : List MergedRow) → IsPermutation (r ∷ rows) (put_by_place d k r rows)
put_permutes d k r [] = IsPermutation-refl (r ∷ [])
put_permutes d k r (q ∷ rows) = go (is_gt (place_cmp (place_of d k r) (place_of d k q))) (put_permutes d k r rows)
  where
    go : (b : Bool) → IsPermutation (r ∷ rows) (put_by_place d k r rows) → IsPermutation (r ∷ q ∷ rows) (cond b (q ∷ put_by_place d k r rows) (r ∷ q ∷ rows))
    go false others = IsPermutation-refl (r ∷ q ∷ rows)
    go true others = IsPermutation-trans (r ∷ q ∷ rows) (q ∷ r ∷ rows) (q ∷ put_by_place d k r rows) (IsPermutation-middle (r ∷ []) q rows) (IsPermutation-cons q (r ∷ rows) (put_by_place d k r rows) others)

by_permutes : (d : Defs) (k : ℕ) (rows : List MergedRow) → IsPermutation rows (by_place d k rows)
by_permutes d k [] = IsPermutation-refl []
by_permutes d k (r ∷ rows) = IsPermutation-trans (r ∷ rows) (r ∷ by_place d k rows) (put_by_place d k r (by_place d k rows)) (IsPermutation-cons r rows (by_place d k rows) (by_permutes d k rows)) (put_permutes d k r (by_place d k rows))

-- ---- one list

-- the values of the row at a position of the table of a number, where the first table has number n
abbrev values_at : ℕ → List TableState → ℕ → ℕ → Option Values
values_at n [] table at = None
values_at n (s ∷ ss) table at = if n == table then option_map (λ (q : StoredRow). q.values) (row_at at s.rows) else values_at (n + 1) ss table at

-- they are the row's, and its table is not before the first
abbrev IsThere : ℕ → List TableState → MergedRow → Type 0
IsThere n ss r = (values_at n ss r.0 r.1 ≡ Some r.2) × (n ≤ r.0)

eqb_self : (n : ℕ) → (n == n) ≡ true
eqb_self n = elim (eqb_tells n n) [ inl p ↦ p.0 | inr p ↦ absurd (p.1 refl) ]

there_first : (n : ℕ) (s : TableState) (ss : List TableState) (rows : List StoredRow) → AllByRecursion (IsAmong s.rows) rows → AllByRecursion (IsThere n (s ∷ ss)) (map (of_number n) rows)
there_first n s ss [] h = tt
there_first n s ss (r ∷ rows) h = ((rw (eqb_self n) (ap (option_map (λ (q : StoredRow). q.values)) h.0), omega arith), there_first n s ss rows h.1)

there_later : (n : ℕ) (s : TableState) (ss : List TableState) (rows : List MergedRow) → AllByRecursion (IsThere (n + 1) ss) rows → AllByRecursion (IsThere n (s ∷ ss)) rows
there_later n s ss [] h = tt
there_later n s ss (r ∷ rows) h = (one r h.0, there_later n s ss rows h.1)
  where
    one : (q : MergedRow) → IsThere (n + 1) ss q → IsThere n (s ∷ ss) q
    one q g = (
      elim (eqb_tells n q.0) [ inl p ↦ absurd (let e : n ≡ q.0 = p.1 in let le : n + 1 ≤ q.0 = g.1 in omega arith) | inr p ↦ rw p.0 g.0 ],
      (let le : n + 1 ≤ q.0 = g.1 in omega arith),
    )

both_there : (n : ℕ) (ss : List TableState) (xs ys : List MergedRow) → AllByRecursion (IsThere n ss) xs → AllByRecursion (IsThere n ss) ys → AllByRecursion (IsThere n ss) (xs ++ ys)
both_there n ss [] ys h g = g
both_there n ss (x ∷ xs) ys h g = (h.0, both_there n ss xs ys h.1 g)

all_there : (n : ℕ) (ss : List TableState) → AllByRecursion (λ (s : TableState). (e : Defs) × IsState e s) ss → AllByRecursion (IsThere n ss) (rows_from n ss)
all_there n [] h = tt
all_there n (s ∷ ss) h =
    both_there n (s ∷ ss) (map (of_number n) s.rows) (rows_from (n + 1) ss) (there_first n s ss s.rows (each_among 0 s.rows h.0.1.order)) (there_later n s ss (rows_from (n + 1) ss) (all_there (n + 1) ss h.1))

some_same : (x y : Values) → Some x ≡ Some y → x ≡ y
some_same x y e = let k = e in cc

abbrev row_with : ℕ → ℕ → Values → MergedRow
row_with table at values = (table, at, values)

places_tell : (d : Defs) (k n : ℕ) (ss : List TableState) (xs ys : List MergedRow) → AllByRecursion (IsThere n ss) xs → AllByRecursion (IsThere n ss) ys → map (place_of d k) xs ≡ map (place_of d k) ys → xs ≡ ys
places_tell d k n ss [] [] a b e = refl
places_tell d k n ss [] (y ∷ ys) a b e = cc
places_tell d k n ss (x ∷ xs) [] a b e = cc
places_tell d k n ss (x ∷ xs) (y ∷ ys) a b e =
    let head : place_of d k x ≡ place_of d k y = let f = e in cc in
    let tail : map (place_of d k) xs ≡ map (place_of d k) ys = let f = e in cc in
    let table : x.0 ≡ y.0 = ap (λ (p : MergedPlace). p.table) head in
    let at : x.1 ≡ y.1 = ap (λ (p : MergedPlace). p.at) head in
    let values : x.2 ≡ y.2 = some_same x.2 y.2 (sym a.0.0 ∙ ap (λ t. values_at n ss t x.1) table ∙ ap (λ p. values_at n ss y.0 p) at ∙ b.0.0) in
    let same : x ≡ y = ap (λ t. row_with t x.1 x.2) table ∙ ap (λ p. row_with y.0 p x.2) at ∙ ap (λ v. row_with y.0 y.1 v) values in
    ap (λ q. q ∷ xs) same ∙ ap (λ qs. y ∷ qs) (places_tell d k n ss xs ys a.1 b.1 tail)

abbrev between : Defs → ℕ → Bounds → List MergedRow → List MergedRow
between d k bounds rows = filter (λ (r : MergedRow). lies_between bounds (key_of d k r.2)) rows

-- the states of the tables may have definitions of their own, whose rows are in order
pub merged_once : (d : Defs) (k : ℕ) (bounds : Bounds) (ss : List TableState) (rows : List MergedRow) → AllByRecursion (λ (s : TableState). (e : Defs) × IsState e s) ss → IsPermutation (between d k bounds (rows_from 1 ss)) rows → IsSorted place_cmp (map (place_of d k) rows)
    → rows ≡ merged_between d k bounds (rows_from 1 ss)
unfolding merged_between
merged_once d k bounds ss rows states same order =
    let P = IsThere 1 ss in
    let mine = between d k bounds (rows_from 1 ss) in
    let all : All P (rows_from 1 ss) = All-from_recursion P (rows_from 1 ss) (all_there 1 ss states) in
    let some : All P mine = All-filter _ P (rows_from 1 ss) all in
    places_tell d k 1 ss rows (by_place d k mine)
    (recursion_from_All P rows (All-permutation P mine rows same some))
    (recursion_from_All P (by_place d k mine) (All-permutation P mine (by_place d k mine) (by_permutes d k mine) some))
    (sorted_is (map (place_of d k) mine) (map (place_of d k) rows) (IsPermutation-map (place_of d k) mine rows same) order ∙ sym (placed_sorted d k mine))
