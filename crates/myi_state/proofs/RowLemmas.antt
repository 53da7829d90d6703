-- Rows by their positions: what goes in, what is taken out, and what stays.
use Rattle.std.proofs.Common.{◌≡◌, ◌≢◌, ℕ, ◌+◌, ◌<◌, ◌≤◌, Bool, true, false, List, [], ◌∷◌, ◌++◌, Option, Some, None, refl, sym, ap, subst, ◌∙◌, arith}
use Rattle.std.specs.Prelude.{◌==◌, nat_lt, if◌then◌else◌}
use Rattle.std.specs.List.{AllByRecursion}
use Rattle.std.proofs.lemmas.Bool.{ltb-true, ltb-false, eqb-true, eqb-false, ne_eqb}
use Rattle.myi_dellist.specs.Areas.{Area, bytes_below, Tile}
use Rattle.myi_state.specs.State.{StoredRow, row_areas, put_row, row_at, rows_without}
use Rattle.myi_state.specs.Sound.{AreInOrder}

pub below-both : (p : ℕ) (xs ys : List Area) → bytes_below p (xs ++ ys) ≡ bytes_below p xs + bytes_below p ys
below-both p [] ys = omega arith
below-both p (x ∷ xs) ys = omega (arith, below-both p xs ys)

pub below-rising : (p q : ℕ) (areas : List Area) → p ≤ q → bytes_below p areas ≤ bytes_below q areas
below-rising p q [] le = omega arith
below-rising p q (a ∷ areas) le = omega (arith, below-rising p q areas le)

-- ---- what all rows take does not hang on their order

pub put-below : (p : ℕ) (r : StoredRow) (rows : List StoredRow) → bytes_below p (row_areas (put_row r rows)) ≡ bytes_below p r.blocks + bytes_below p (row_areas rows)
put-below p r [] = below-both p r.blocks []
put-below p r (q ∷ qs) = by_test (nat_lt q.at r.at) (put-below p r qs)
  where
    by_test : (b : Bool) → bytes_below p (row_areas (put_row r qs)) ≡ bytes_below p r.blocks + bytes_below p (row_areas qs) → bytes_below p (row_areas (if b then q ∷ put_row r qs else r ∷ q ∷ qs)) ≡ bytes_below p r.blocks + bytes_below p (row_areas (q ∷ qs))
    by_test true ih = omega (arith, ih, below-both p q.blocks (row_areas (put_row r qs)), below-both p q.blocks (row_areas qs))
    by_test false ih = below-both p r.blocks (row_areas (q ∷ qs))

pub without-below : (p at : ℕ) (rows : List StoredRow) (r : StoredRow) → row_at at rows ≡ Some r → bytes_below p (row_areas rows) ≡ bytes_below p r.blocks + bytes_below p (row_areas (rows_without at rows))
without-below p at [] r e = absurd cc
without-below p at (q ∷ qs) r e = by_test (q.at == at) e (without-below p at qs r)
  where
    by_test : (b : Bool) → (if b then Some q else row_at at qs) ≡ Some r → (row_at at qs ≡ Some r → bytes_below p (row_areas qs) ≡ bytes_below p r.blocks + bytes_below p (row_areas (rows_without at qs))) → bytes_below p (row_areas (q ∷ qs)) ≡ bytes_below p r.blocks + bytes_below p (row_areas (if b then qs else q ∷ rows_without at qs))
    by_test true e ih = let same : q ≡ r = cc in below-both p q.blocks (row_areas qs) ∙ ap (λ (x : StoredRow). bytes_below p x.blocks + bytes_below p (row_areas qs)) same
    by_test false e ih = omega (arith, ih e, below-both p q.blocks (row_areas qs), below-both p q.blocks (row_areas (rows_without at qs)))

-- ---- order

lower : (low more : ℕ) (rows : List StoredRow) → more ≤ low → AreInOrder low rows → AreInOrder more rows
lower low more [] le h = tt
lower low more (q ∷ qs) le h = (omega (arith, h.0), h.1)

pub put-order : (low : ℕ) (r : StoredRow) (rows : List StoredRow) → low ≤ r.at → row_at r.at rows ≡ None → AreInOrder low rows → AreInOrder low (put_row r rows)
put-order low r [] le none h = (le, tt)
put-order low r (q ∷ qs) le none h = by_test (nat_lt q.at r.at) (q.at == r.at) refl refl none (λ far more. put-order (q.at + 1) r qs far more h.1)
  where
    by_test : (b c : Bool) → nat_lt q.at r.at ≡ b → (q.at == r.at) ≡ c → (if c then Some q else row_at r.at qs) ≡ None → (q.at + 1 ≤ r.at → row_at r.at qs ≡ None → AreInOrder (q.at + 1) (put_row r qs)) → AreInOrder low (if b then q ∷ put_row r qs else r ∷ q ∷ qs)
    by_test b true e f n ih = absurd cc
    by_test true false e f n ih = (h.0, ih (omega (arith, ltb-true _ _ e)) n)
    by_test false false e f n ih = let ge = ltb-false _ _ e in let ne = eqb-false _ _ f in (le, (omega (arith, ge, ne), h.1))

pub without-order : (low p : ℕ) (rows : List StoredRow) → AreInOrder low rows → AreInOrder low (rows_without p rows)
without-order low p [] h = tt
without-order low p (q ∷ qs) h = by_test (q.at == p) (without-order (q.at + 1) p qs h.1)
  where
    by_test : (b : Bool) → AreInOrder (q.at + 1) (rows_without p qs) → AreInOrder low (if b then qs else q ∷ rows_without p qs)
    by_test true ih = lower (q.at + 1) low qs (omega (arith, h.0)) h.1
    by_test false ih = (h.0, ih)

-- ---- which row stands at a position

pub none-below : (p low : ℕ) (rows : List StoredRow) → p < low → AreInOrder low rows → row_at p rows ≡ None
none-below p low [] lt h = refl
none-below p low (q ∷ qs) lt h = let other : (q.at == p) ≡ false = ne_eqb _ _ (omega (arith, h.0)) in rw other (none-below p (q.at + 1) qs (omega (arith, h.0)) h.1)

pub without-none : (low p : ℕ) (rows : List StoredRow) → AreInOrder low rows → row_at p (rows_without p rows) ≡ None
without-none low p [] h = refl
without-none low p (q ∷ qs) h = by_test (q.at == p) refl (without-none (q.at + 1) p qs h.1)
  where
    by_test : (b : Bool) → (q.at == p) ≡ b → row_at p (rows_without p qs) ≡ None → row_at p (if b then qs else q ∷ rows_without p qs) ≡ None
    by_test true e ih = let at = eqb-true _ _ e in none-below p (q.at + 1) qs (omega arith) h.1
    by_test false e ih = rw e ih

pub without-other : (p q : ℕ) (rows : List StoredRow) → q ≢ p → row_at q (rows_without p rows) ≡ row_at q rows
without-other p q [] ne = refl
without-other p q (r ∷ rs) ne = by_test (r.at == p) refl (without-other p q rs ne)
  where
    by_test : (b : Bool) → (r.at == p) ≡ b → row_at q (rows_without p rs) ≡ row_at q rs → row_at q (if b then rs else r ∷ rows_without p rs) ≡ (if r.at == q then Some r else row_at q rs)
    by_test true e ih = let at = eqb-true _ _ e in let other : (r.at == q) ≡ false = ne_eqb _ _ (λ same. ne (omega (arith, same, at))) in rw other refl
    by_test false e ih = ap (λ (o : Option StoredRow). if r.at == q then Some r else o) ih

pub put-other : (r : StoredRow) (q : ℕ) (rows : List StoredRow) → q ≢ r.at → row_at q (put_row r rows) ≡ row_at q rows
put-other r q [] ne = let other : (r.at == q) ≡ false = ne_eqb _ _ (λ same. ne (omega (arith, same))) in rw other refl
put-other r q (s ∷ ss) ne = by_test (nat_lt s.at r.at) (put-other r q ss ne)
  where
    by_test : (b : Bool) → row_at q (put_row r ss) ≡ row_at q ss → row_at q (if b then s ∷ put_row r ss else r ∷ s ∷ ss) ≡ (if s.at == q then Some s else row_at q ss)
    by_test true ih = ap (λ (o : Option StoredRow). if s.at == q then Some s else o) ih
    by_test false ih = let other : (r.at == q) ≡ false = ne_eqb _ _ (λ same. ne (omega (arith, same))) in rw other refl

same-at : (p : ℕ) → (p == p) ≡ true
same-at p = grind arith

pub put-same : (r : StoredRow) (rows : List StoredRow) → row_at r.at rows ≡ None → row_at r.at (put_row r rows) ≡ Some r
put-same r [] none = rw (same-at r.at) refl
put-same r (s ∷ ss) none = by_test (nat_lt s.at r.at) (s.at == r.at) refl none (put-same r ss)
  where
    by_test : (b c : Bool) → (s.at == r.at) ≡ c → (if c then Some s else row_at r.at ss) ≡ None → (row_at r.at ss ≡ None → row_at r.at (put_row r ss) ≡ Some r) → row_at r.at (if b then s ∷ put_row r ss else r ∷ s ∷ ss) ≡ Some r
    by_test b true e n ih = absurd cc
    by_test true false e n ih = rw e (ih n)
    by_test false false e n ih = rw (same-at r.at) refl

-- ---- what holds of each row

pub put-all : (P : StoredRow → Type 0) (r : StoredRow) (rows : List StoredRow) → P r → AllByRecursion P rows → AllByRecursion P (put_row r rows)
put-all P r [] h all = (h, tt)
put-all P r (q ∷ qs) h all = by_test (nat_lt q.at r.at) (put-all P r qs h all.1)
  where
    by_test : (b : Bool) → AllByRecursion P (put_row r qs) → AllByRecursion P (if b then q ∷ put_row r qs else r ∷ q ∷ qs)
    by_test true ih = (all.0, ih)
    by_test false ih = (h, all)

pub without-all : (P : StoredRow → Type 0) (p : ℕ) (rows : List StoredRow) → AllByRecursion P rows → AllByRecursion P (rows_without p rows)
without-all P p [] all = tt
without-all P p (q ∷ qs) all = by_test (q.at == p) (without-all P p qs all.1)
  where
    by_test : (b : Bool) → AllByRecursion P (rows_without p qs) → AllByRecursion P (if b then qs else q ∷ rows_without p qs)
    by_test true ih = all.1
    by_test false ih = (all.0, ih)

pub found-is : (P : StoredRow → Type 0) (p : ℕ) (rows : List StoredRow) (r : StoredRow) → row_at p rows ≡ Some r → AllByRecursion P rows → P r × (r.at ≡ p)
found-is P p [] r e all = absurd cc
found-is P p (q ∷ qs) r e all = by_test (q.at == p) refl e (λ more. found-is P p qs r more all.1)
  where
    by_test : (b : Bool) → (q.at == p) ≡ b → (if b then Some q else row_at p qs) ≡ Some r → (row_at p qs ≡ Some r → P r × (r.at ≡ p)) → P r × (r.at ≡ p)
    by_test true e f ih = let same : q ≡ r = cc in (subst P same all.0, ap (λ (x : StoredRow). x.at) (sym same) ∙ eqb-true _ _ e)
    by_test false e f ih = ih f

-- ---- a row's place is no deleted block's, and lies below the end

-- the first area begins at a place and has a byte
pub record Begins (p : ℕ) (areas : List Area) : Type 0 where
  pub size : ℕ
  pub some : 0 < size
  pub more : List Area
  pub is : areas ≡ record { at = p; size = size } ∷ more

pub begins-byte : (p : ℕ) (areas : List Area) → Begins p areas → bytes_below p areas + 1 ≤ bytes_below (p + 1) areas
begins-byte p areas b =
    let some = b.some in
    let rise = below-rising p (p + 1) b.more (omega arith) in
    let whole : bytes_below p (record { at = p; size = b.size } ∷ b.more) + 1 ≤ bytes_below (p + 1) (record { at = p; size = b.size } ∷ b.more) = omega arith in
    subst (λ (xs : List Area). bytes_below p xs + 1 ≤ bytes_below (p + 1) xs) (sym b.is) whole

pub row-alone : (p end : ℕ) (rows : List StoredRow) (holes : List Area) (r : StoredRow) → Tile end (row_areas rows ++ holes) → row_at p rows ≡ Some r → Begins p r.blocks → (p < end) × (bytes_below (p + 1) holes ≡ bytes_below p holes)
row-alone p end rows holes r tile e b =
    let one = begins-byte p r.blocks b in
    let rest = below-rising p (p + 1) (row_areas (rows_without p rows)) (omega arith) in
    let gone = below-rising p (p + 1) holes (omega arith) in
    let t0 = tile p in
    let t1 = tile (p + 1) in
    let s0 = below-both p (row_areas rows) holes in
    let s1 = below-both (p + 1) (row_areas rows) holes in
    let w0 = without-below p p rows r e in
    let w1 = without-below (p + 1) p rows r e in
    (omega (arith, one, rest, gone, t0, t1, s0, s1, w0, w1), omega (arith, one, rest, gone, t0, t1, s0, s1, w0, w1))
