-- The numbers of a state: how many rows, blocks and deleted blocks there are, and that they are few.
use Rattle.std.proofs.Common.{◌≡◌, ℕ, ◌+◌, ◌≤◌, Bool, true, false, List, [], ◌∷◌, ◌++◌, length, Option, Some, None, refl, ap, ◌∙◌, arith}
use Rattle.std.specs.Prelude.{◌==◌, nat_lt, if◌then◌else◌}
use Rattle.std.specs.List.{AllByRecursion}
use Rattle.std.proofs.lemmas.List.{length-append}
use Rattle.std.proofs.lemmas.List.Sums.{sum_by-cons}
use Rattle.myi_defs.specs.declared.types.Defs.{Defs}
use Rattle.myi_defs.specs.Sound.{IsSound}
use Rattle.myi_dellist.specs.Areas.{Area, bytes_below, HaveBytes, AreInside}
use Rattle.myi_dellist.specs.Standing.{first_or}
use Rattle.myi_dellist.proofs.CallerLemmas.{tile-inside}
use Rattle.myi_state.specs.declared.counts.Counts.{Counts}
use Rattle.myi_state.specs.State.{StoredRow, TableState, row_areas, put_row, row_at, rows_without}
use Rattle.myi_state.specs.Sound.{IsRow, IsState}
use Rattle.myi_state.specs.Numbers.{total_bytes}
use Rattle.myi_state.proofs.RowLemmas.{below-both}
use Rattle.myi_state.proofs.ReadLemmas.{state-bytes}

abbrev pub counts : ℕ → ℕ → ℕ → ℕ → ℕ → Option ℕ → Counts
counts r d s e l h = record { records = r; del = d; split = s; empty = e; length = l; dellink = h }

pub same-counts : (r d s e l : ℕ) (h : Option ℕ) (r' d' s' e' l' : ℕ) (h' : Option ℕ) → r ≡ r' → d ≡ d' → s ≡ s' → e ≡ e' → l ≡ l' → h ≡ h' → counts r d s e l h ≡ counts r' d' s' e' l' h'
same-counts r d s e l h r' d' s' e' l' h' a b c f g i =
    ap (λ (n : ℕ). counts n d s e l h) a ∙ ap (λ (n : ℕ). counts r' n s e l h) b ∙ ap (λ (n : ℕ). counts r' d' n e l h) c
    ∙ ap (λ (n : ℕ). counts r' d' s' n l h) f ∙ ap (λ (n : ℕ). counts r' d' s' e' n h) g ∙ ap (λ (o : Option ℕ). counts r' d' s' e' l' o) i

-- ---- how many rows and areas there are

pub put-rows : (r : StoredRow) (rows : List StoredRow) → length (put_row r rows) ≡ length rows + 1
put-rows r [] = omega arith
put-rows r (q ∷ qs) = by_test (nat_lt q.at r.at) (put-rows r qs)
  where
    by_test : (b : Bool) → length (put_row r qs) ≡ length qs + 1 → length (if b then q ∷ put_row r qs else r ∷ q ∷ qs) ≡ length (q ∷ qs) + 1
    by_test true ih = omega (arith, ih)
    by_test false ih = omega arith

pub put-areas : (r : StoredRow) (rows : List StoredRow) → length (row_areas (put_row r rows)) ≡ length r.blocks + length (row_areas rows)
put-areas r [] = length-append r.blocks []
put-areas r (q ∷ qs) = by_test (nat_lt q.at r.at) (put-areas r qs)
  where
    by_test : (b : Bool) → length (row_areas (put_row r qs)) ≡ length r.blocks + length (row_areas qs) → length (row_areas (if b then q ∷ put_row r qs else r ∷ q ∷ qs)) ≡ length r.blocks + length (row_areas (q ∷ qs))
    by_test true ih = omega (arith, ih, length-append q.blocks (row_areas (put_row r qs)), length-append q.blocks (row_areas qs))
    by_test false ih = length-append r.blocks (row_areas (q ∷ qs))

pub gone-rows : (at : ℕ) (rows : List StoredRow) (r : StoredRow) → row_at at rows ≡ Some r → length rows ≡ length (rows_without at rows) + 1
gone-rows at [] r e = absurd cc
gone-rows at (q ∷ qs) r e = by_test (q.at == at) e (gone-rows at qs r)
  where
    by_test : (b : Bool) → (if b then Some q else row_at at qs) ≡ Some r → (row_at at qs ≡ Some r → length qs ≡ length (rows_without at qs) + 1) → length (q ∷ qs) ≡ length (if b then qs else q ∷ rows_without at qs) + 1
    by_test true e ih = omega arith
    by_test false e ih = omega (arith, ih e)

pub gone-areas : (at : ℕ) (rows : List StoredRow) (r : StoredRow) → row_at at rows ≡ Some r → length (row_areas rows) ≡ length r.blocks + length (row_areas (rows_without at rows))
gone-areas at [] r e = absurd cc
gone-areas at (q ∷ qs) r e = by_test (q.at == at) e (gone-areas at qs r)
  where
    by_test : (b : Bool) → (if b then Some q else row_at at qs) ≡ Some r → (row_at at qs ≡ Some r → length (row_areas qs) ≡ length r.blocks + length (row_areas (rows_without at qs))) → length (row_areas (q ∷ qs)) ≡ length r.blocks + length (row_areas (if b then qs else q ∷ rows_without at qs))
    by_test true e ih = let same : q ≡ r = cc in length-append q.blocks (row_areas qs) ∙ ap (λ (x : StoredRow). length x.blocks + length (row_areas qs)) same
    by_test false e ih = omega (arith, ih e, length-append q.blocks (row_areas qs), length-append q.blocks (row_areas (rows_without at qs)))

-- ---- they are few

pub areas-few : (end : ℕ) (areas : List Area) → HaveBytes areas → AreInside end areas → length areas ≤ bytes_below end areas
areas-few end [] some inside = omega arith
areas-few end (a ∷ areas) some inside = omega (arith, areas-few end areas some.1 inside.1, some.0, inside.0)

-- areas that end in a file have the bytes that stand below its end
pub bytes-inside : (end : ℕ) (areas : List Area) → AreInside end areas → total_bytes areas ≡ bytes_below end areas
bytes-inside end [] inside = refl
bytes-inside end (a ∷ areas) inside = omega (arith, sum_by-cons (λ (b : Area). b.size) a areas, bytes-inside end areas inside.1, inside.0)

-- a row has a block
one_long : (p : ℕ) (areas : List Area) → first_or areas None ≡ Some p → 1 ≤ length areas
one_long p [] e = absurd cc
one_long p (a ∷ areas) e = omega arith

rows_few : (d : Defs) (rows : List StoredRow) → AllByRecursion (IsRow d) rows → length rows ≤ length (row_areas rows)
rows_few d [] all = omega arith
rows_few d (r ∷ rows) all = omega (arith, one_long r.at r.blocks all.0.place, rows_few d rows all.1, length-append r.blocks (row_areas rows))

pub halves-of : (end : ℕ) (xs ys : List Area) → HaveBytes (xs ++ ys) → AreInside end (xs ++ ys) → (HaveBytes xs × AreInside end xs) × (HaveBytes ys × AreInside end ys)
halves-of end [] ys some inside = ((tt, tt), (some, inside))
halves-of end (x ∷ xs) ys some inside = let t = halves-of end xs ys some.1 inside.1 in (((some.0, t.0.0), (inside.0, t.0.1)), t.1)

pub record AreFew (s : TableState) : Type 0 where
  pub rows : length s.rows ≤ s.space.end
  pub areas : length (row_areas s.rows) ≤ s.space.end
  pub holes : length s.space.holes ≤ s.space.end
  pub bytes : total_bytes s.space.holes ≤ s.space.end

pub state-few : (d : Defs) (s : TableState) → IsSound d → IsState d s → AreFew s
state-few d s sound i =
    let all = row_areas s.rows ++ s.space.holes in
    let some = state-bytes d s sound i in
    let h = halves-of s.space.end (row_areas s.rows) s.space.holes some (tile-inside s.space.end all some i.tile) in
    let whole = i.tile s.space.end in
    let both = below-both s.space.end (row_areas s.rows) s.space.holes in
    let a = areas-few s.space.end (row_areas s.rows) h.0.0 h.0.1 in
    let b = areas-few s.space.end s.space.holes h.1.0 h.1.1 in
    let c = bytes-inside s.space.end s.space.holes h.1.1 in
    record {
      rows = omega (arith, a, whole, both, rows_few d s.rows i.rows);
      areas = omega (arith, a, whole, both);
      holes = omega (arith, b, whole, both);
      bytes = omega (arith, c, whole, both);
    }
