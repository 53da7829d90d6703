-- What a read of a range finds are the rows whose key lies between the bounds, in order, and there is one such list.
use Rattle.std.proofs.Common.{◌≡◌, ℕ, ◌+◌, ◌<◌, ◌≤◌, ◌==◌, List, [], ◌∷◌, map, filter, Some, Bool, true, false, cond, refl, ap, sym, ◌∙◌, arith, subst, inl, inr, IsPermutation, IsSorted}
use Rattle.std.specs.List.{All, AllByRecursion}
use Rattle.std.specs.Ordering.{is_gt}
use Rattle.std.proofs.lemmas.Bool.Decides.{eqb_tells}
use Rattle.std.proofs.lemmas.List.Elements.{All-filter, All-from_recursion, recursion_from_All}
use Rattle.std.proofs.lemmas.List.Sorted.{All-permutation, IsPermutation-refl, IsPermutation-trans, IsPermutation-cons, IsPermutation-middle, IsPermutation-map}
use Rattle.myi_defs.specs.declared.types.Defs.{Defs}
use Rattle.myi_data.specs.Keys.{key_of}
use Rattle.myi_keylist.specs.declared.pair.Pair.{Pair}
use Rattle.myi_keylist.specs.PairOrder.{pair_cmp, put_pair, sorted}
use Rattle.myi_keylist.proofs.CallerLemmas.{sorted_is, sorted_sorted}
use Rattle.myi_state.specs.State.{StoredRow, TableState, row_at}
use Rattle.myi_state.specs.Sound.{AreInOrder, IsState}
use Rattle.myi_tablestate.specs.Matching.{Bounds, lies_between, placed_key, AreMatching}
use Rattle.myi_history.specs.Reads.{put_by_key, by_key, rows_between}

-- ---- in order

placed_put : (d : Defs) (k : ℕ) (r : StoredRow) (rows : List StoredRow) → map (placed_key d k) (put_by_key d k r rows) ≡ put_pair (placed_key d k r) (map (placed_key d k) rows)
placed_put d k r [] = refl
placed_put d k r (q ∷ rows) = go (is_gt (pair_cmp (placed_key d k r) (placed_key d k q))) (placed_put d k r rows)
  where
    go : (b : Bool) → map (placed_key d k) (put_by_key d k r rows) ≡ put_pair (placed_key d k r) (map (placed_key d k) rows)
        → map (placed_key d k) (cond b (q ∷ put_by_key d k r rows) (r ∷ q ∷ rows))
        ≡ cond b (placed_key d k q ∷ put_pair (placed_key d k r) (map (placed_key d k) rows)) (placed_key d k r ∷ placed_key d k q ∷ map (placed_key d k) rows)
    go true e = ap (λ ps. placed_key d k q ∷ ps) e
    go false e = refl

placed_sorted : (d : Defs) (k : ℕ) (rows : List StoredRow) → map (placed_key d k) (by_key d k rows) ≡ sorted (map (placed_key d k) rows)
placed_sorted d k [] = refl
placed_sorted d k (r ∷ rows) = placed_put d k r (by_key d k rows) ∙ ap (λ ps. put_pair (placed_key d k r) ps) (placed_sorted d k rows)

put_permutes : (d : Defs) (k : ℕ) (r : StoredRow) (rows : List StoredRow) → IsPermutation (r ∷ rows) (put_by_key d k r rows)
put_permutes d k r [] = IsPermutation-refl (r ∷ [])
put_permutes d k r (q ∷ rows) = go (is_gt (pair_cmp (placed_key d k r) (placed_key d k q))) (put_permutes d k r rows)
  where
    go : (b : Bool) → IsPermutation (r ∷ rows) (put_by_key d k r rows) → IsPermutation (r ∷ q ∷ rows) (cond b (q ∷ put_by_key d k r rows) (r ∷ q ∷ rows))
    go false others = IsPermutation-refl (r ∷ q ∷ rows)
    go true others = IsPermutation-trans (r ∷ q ∷ rows) (q ∷ r ∷ rows) (q ∷ put_by_key d k r rows) (IsPermutation-middle (r ∷ []) q rows) (IsPermutation-cons q (r ∷ rows) (put_by_key d k r rows) others)

by_permutes : (d : Defs) (k : ℕ) (rows : List StoredRow) → IsPermutation rows (by_key d k rows)
by_permutes d k [] = IsPermutation-refl []
by_permutes d k (r ∷ rows) = IsPermutation-trans (r ∷ rows) (r ∷ by_key d k rows) (put_by_key d k r (by_key d k rows)) (IsPermutation-cons r rows (by_key d k rows) (by_permutes d k rows)) (put_permutes d k r (by_key d k rows))

abbrev pub between : Defs → ℕ → Bounds → List StoredRow → List StoredRow
between d k bounds rows = filter (λ (r : StoredRow). lies_between bounds (key_of d k r.values)) rows

pub are_matching : (d : Defs) (k : ℕ) (bounds : Bounds) (rows : List StoredRow) → AreMatching d k bounds rows (rows_between d k bounds rows)
unfolding rows_between
are_matching d k bounds rows =
    let P : List Pair → Type 0 = λ ps. IsSorted pair_cmp ps in
    record {
      same = by_permutes d k (between d k bounds rows);
      order = subst P (sym (placed_sorted d k (between d k bounds rows))) (sorted_sorted (map (placed_key d k) (between d k bounds rows)));
    }

-- ---- one list

-- the row is the one at its position
abbrev pub IsAmong : List StoredRow → StoredRow → Type 0
IsAmong rows r = row_at r.at rows ≡ Some r

among_later : (low : ℕ) (q : StoredRow) (rows others : List StoredRow) → AreInOrder low rows → q.at < low → AllByRecursion (IsAmong others) rows → AllByRecursion (IsAmong (q ∷ others)) rows
among_later low q [] others order less h = tt
among_later low q (r ∷ rows) others order less h = (
  (let no : (q.at == r.at) ≡ false = apart in rw no h.0),
  among_later (r.at + 1) q rows others order.1 (let l : low ≤ r.at = order.0 in omega arith) h.1,
)
  where
    apart : (q.at == r.at) ≡ false
    apart = elim (eqb_tells q.at r.at) [ inl p ↦ absurd (let e : q.at ≡ r.at = p.1 in let l : low ≤ r.at = order.0 in omega arith) | inr p ↦ p.0 ]

pub each_among : (low : ℕ) (rows : List StoredRow) → AreInOrder low rows → AllByRecursion (IsAmong rows) rows
each_among low [] order = tt
each_among low (q ∷ rows) order = (
  rw itself refl,
  among_later (q.at + 1) q rows rows order.1 (omega arith) (each_among (q.at + 1) rows order.1),
)
  where
    itself : (q.at == q.at) ≡ true
    itself = elim (eqb_tells q.at q.at) [ inl p ↦ p.0 | inr p ↦ absurd (p.1 refl) ]

some_same : (x y : StoredRow) → Some x ≡ Some y → x ≡ y
some_same x y e = let k = e in cc

pairs_tell : (d : Defs) (k : ℕ) (rows xs ys : List StoredRow) → AllByRecursion (IsAmong rows) xs → AllByRecursion (IsAmong rows) ys → map (placed_key d k) xs ≡ map (placed_key d k) ys → xs ≡ ys
pairs_tell d k rows [] [] a b e = refl
pairs_tell d k rows [] (y ∷ ys) a b e = cc
pairs_tell d k rows (x ∷ xs) [] a b e = cc
pairs_tell d k rows (x ∷ xs) (y ∷ ys) a b e =
    let head : placed_key d k x ≡ placed_key d k y = let f = e in cc in
    let tail : map (placed_key d k) xs ≡ map (placed_key d k) ys = let f = e in cc in
    let at : x.at ≡ y.at = ap (λ (p : Pair). p.row) head in
    let same : x ≡ y = some_same x y (sym a.0 ∙ ap (λ p. row_at p rows) at ∙ b.0) in
    ap (λ q. q ∷ xs) same ∙ ap (λ qs. y ∷ qs) (pairs_tell d k rows xs ys a.1 b.1 tail)

pub matching_once : (d : Defs) (s : TableState) (k : ℕ) (bounds : Bounds) (rows : List StoredRow) → IsState d s → AreMatching d k bounds s.rows rows → rows ≡ rows_between d k bounds s.rows
unfolding rows_between
matching_once d s k bounds rows state m =
    let mine = between d k bounds s.rows in
    let all : All (IsAmong s.rows) s.rows = All-from_recursion (IsAmong s.rows) s.rows (each_among 0 s.rows state.order) in
    let some : All (IsAmong s.rows) mine = All-filter _ (IsAmong s.rows) s.rows all in
    pairs_tell d k s.rows rows (by_key d k mine)
    (recursion_from_All (IsAmong s.rows) rows (All-permutation (IsAmong s.rows) mine rows m.same some))
    (recursion_from_All (IsAmong s.rows) (by_key d k mine) (All-permutation (IsAmong s.rows) mine (by_key d k mine) (by_permutes d k mine) some))
    (sorted_is (map (placed_key d k) mine) (map (placed_key d k) rows) (IsPermutation-map (placed_key d k) mine rows m.same) m.order ∙ sym (placed_sorted d k mine))
