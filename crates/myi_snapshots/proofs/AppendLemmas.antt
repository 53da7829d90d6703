-- Rows that come behind the end of a table, one after the other.
use Rattle.std.proofs.Common.{◌≡◌, ℕ, zero, suc, ◌+◌, ◌-◌, ◌^◌, ◌≤◌, ◌<◌, Bool, true, false, nat_lt, List, [], ◌∷◌, ◌++◌, length, map, Option, Some, None, sym, refl, ap, ◌∙◌, subst, arith, append_assoc, unwrap_or, if◌then◌else◌}
use Rattle.std.specs.Prelude.{sum_by}
use Rattle.std.specs.List.{AllByRecursion}
use Rattle.std.proofs.lemmas.Bool.{lt-ltb}
use Rattle.std.proofs.lemmas.List.{append-nil}
use Rattle.std.proofs.lemmas.List.Sums.{sum_by-cons}
use Rattle.myi_defs.specs.declared.types.RowFormat.{RowFormat}
use Rattle.myi_defs.specs.declared.types.RowFormat.TheVariants.{Static, Dynamic}
use Rattle.myi_defs.specs.declared.types.Defs.{Defs}
use Rattle.myi_defs.specs.Sound.{IsSound}
use Rattle.myi_pack.specs.Packed.{Values}
use Rattle.myi_pack.specs.Spelling.{spelling, fits}
use Rattle.myi_frames.specs.Sizes.{least_size}
use Rattle.myi_dellist.specs.Areas.{Area, AreInside}
use Rattle.myi_dellist.specs.Releasing.{most_size}
use Rattle.myi_dellist.specs.Placing.{Space, room, append_one, append_from, end_behind}
use Rattle.myi_dellist.specs.Standing.{first_or}
use Rattle.myi_dellist.proofs.CallerLemmas.{tile-inside}
use Rattle.myi_state.specs.State.{StoredRow, TableState, row_areas, put_row, take_behind}
use Rattle.myi_state.specs.Changes.{insert_at_end, accepted, behind_taken}
use Rattle.myi_state.specs.Sound.{IsState, IsRow}
use Rattle.myi_state.proofs.CallerLemmas.{accepted-kept, state-bytes, halves-of}
use Rattle.myi_snapshots.specs.Appended.{with_rows, AllFit}
use Rattle.myi_snapshots.specs.Known.{packed_rows, size_by, size_of, end_with}

-- ---- where rows stand

-- each of these rows stands before a place
abbrev pub AllBefore : ℕ → List StoredRow → Type 0
AllBefore place rows = AllByRecursion (λ (r : StoredRow). r.at < place) rows

first_inside : (end p : ℕ) (areas : List Area) → first_or areas None ≡ Some p → AllByRecursion (λ (a : Area). 0 < a.size) areas → AreInside end areas → p < end
first_inside end p [] e some inside = absurd (cc e)
first_inside end p (a ∷ areas) e some inside =
    let here : a.at ≡ p = ap (λ (o : Option ℕ). unwrap_or o 0) e in
    let long = some.0 in
    let fits = inside.0 in
    omega arith

all_before : (d : Defs) (end : ℕ) (rows : List StoredRow) → AllByRecursion (IsRow d) rows → AllByRecursion (λ (a : Area). 0 < a.size) (row_areas rows) → AreInside end (row_areas rows) → AllBefore end rows
all_before d end [] are some inside = tt
all_before d end (r ∷ rows) are some inside =
    let h = halves-of end r.blocks (row_areas rows) some inside in
    (first_inside end r.at r.blocks are.0.place h.0.0 h.0.1, all_before d end rows are.1 h.1.0 h.1.1)

-- all rows of a state stand before its end
pub before_end : (d : Defs) (s : TableState) → IsSound d → IsState d s → AllBefore s.space.end s.rows
before_end d s sound i =
    let some = state-bytes d s sound i in
    let h = halves-of s.space.end (row_areas s.rows) s.space.holes some (tile-inside s.space.end (row_areas s.rows ++ s.space.holes) some i.tile) in
    all_before d s.space.end s.rows i.rows h.0.0 h.0.1

-- ---- one row

put_last : (r : StoredRow) (rows : List StoredRow) → AllBefore r.at rows → put_row r rows ≡ rows ++ r ∷ []
put_last r [] before = refl
put_last r (q ∷ qs) before =
    ap (λ (b : Bool). if b then q ∷ put_row r qs else r ∷ q ∷ qs) (lt-ltb q.at r.at before.0) ∙ ap (λ l. q ∷ l) (put_last r qs before.1)

pub last : (d : Defs) (s : TableState) (row : Values) → IsSound d → IsState d s
    → (accepted d s (insert_at_end row)).state.rows ≡ s.rows ++ record { at = s.space.end; values = row; blocks = (behind_taken d s.space row).blocks } ∷ []
unfolding accepted
last d s row sound i = put_last (record { at = s.space.end; values = row; blocks = (behind_taken d s.space row).blocks }) s.rows (before_end d s sound i)

holes_by : (format : RowFormat) (size len : ℕ) (s : Space) → (take_behind format size s len).space.holes ≡ s.holes
holes_by Static size len s = refl
holes_by Dynamic size len s = refl

holes_one : (d : Defs) (s : TableState) (row : Values) → (accepted d s (insert_at_end row)).state.space.holes ≡ s.space.holes
unfolding accepted
holes_one d s row = holes_by d.format d.slot_length (length (spelling d row)) s.space

-- ---- rows one after the other

pub one_more : (d : Defs) (s : TableState) (rows : List Values) (row : Values) → with_rows d s (rows ++ row ∷ []) ≡ (accepted d (with_rows d s rows) (insert_at_end row)).state
one_more d s [] row = refl
one_more d s (x ∷ xs) row = one_more d (accepted d s (insert_at_end x)).state xs row

pub kept : (d : Defs) (s : TableState) (rows : List Values) → IsSound d → IsState d s → AllFit d rows → IsState d (with_rows d s rows)
kept d s [] sound i fit = i
kept d s (x ∷ xs) sound i fit = kept d (accepted d s (insert_at_end x)).state xs sound (accepted-kept d s (insert_at_end x) sound fit.0 i) fit.1

pub same_holes : (d : Defs) (s : TableState) (rows : List Values) → (with_rows d s rows).space.holes ≡ s.space.holes
same_holes d s [] = refl
same_holes d s (x ∷ xs) = same_holes d (accepted d s (insert_at_end x)).state xs ∙ holes_one d s x

-- each of these rows stands at a place or behind it
abbrev pub AllFrom : ℕ → List StoredRow → Type 0
AllFrom place rows = AllByRecursion (λ (r : StoredRow). place ≤ r.at) rows

from_lower : (low place : ℕ) (rows : List StoredRow) → low ≤ place → AllFrom place rows → AllFrom low rows
from_lower low place [] le all = tt
from_lower low place (r ∷ rows) le all = let here = all.0 in (omega arith, from_lower low place rows le all.1)

last_before : (place : ℕ) (rows : List StoredRow) (r : StoredRow) → AllBefore place (rows ++ r ∷ []) → r.at < place
last_before place [] r all = all.0
last_before place (q ∷ qs) r all = last_before place qs r all.1

-- the end rises
rises : (d : Defs) (s : TableState) (row : Values) → IsSound d → IsState d s → fits d row ≡ true → s.space.end < (accepted d s (insert_at_end row)).state.space.end
rises d s row sound i fit =
    let next = (accepted d s (insert_at_end row)).state in
    let r : StoredRow = record { at = s.space.end; values = row; blocks = (behind_taken d s.space row).blocks } in
    last_before next.space.end s.rows r (subst (λ (l : List StoredRow). AllBefore next.space.end l) (last d s row sound i) (before_end d next sound (accepted-kept d s (insert_at_end row) sound fit i)))

-- the rows of a table, and behind them those that came, at its end or behind it
pub record Extended (s t : TableState) : Type 0 where
  pub more : List StoredRow
  pub rows : t.rows ≡ s.rows ++ more
  pub behind : AllFrom s.space.end more
  pub end : s.space.end ≤ t.space.end

pub extended : (d : Defs) (s : TableState) (rows : List Values) → IsSound d → IsState d s → AllFit d rows → Extended s (with_rows d s rows)
extended d s [] sound i fit = record { more = []; rows = sym (append-nil s.rows); behind = tt; end = omega arith }
extended d s (x ∷ xs) sound i fit =
    let next = (accepted d s (insert_at_end x)).state in
    let r : StoredRow = record { at = s.space.end; values = x; blocks = (behind_taken d s.space x).blocks } in
    let e = extended d next xs sound (accepted-kept d s (insert_at_end x) sound fit.0 i) fit.1 in
    let up = rises d s x sound i fit.0 in
    let ends = e.end in record {
      more = r ∷ e.more;
      rows = e.rows ∙ ap (λ l. l ++ e.more) (last d s x sound i) ∙ append_assoc s.rows (r ∷ []) e.more;
      behind = (omega arith, from_lower s.space.end next.space.end e.more (omega arith) e.behind);
      end = omega arith;
    }

pub grows : (d : Defs) (s : TableState) (rows : List Values) → IsSound d → IsState d s → AllFit d rows → s.space.end ≤ (with_rows d s rows).space.end
grows d s rows sound i fit = (extended d s rows sound i fit).end

-- ---- where they end

-- blocks stand one after the other from any place on as they do from the first
pub shifted : (fuel len : ℕ) (first : Bool) (left at : ℕ) → end_behind at (append_from fuel len first left at) ≡ at + end_behind 0 (append_from fuel len first left 0)
shifted zero len first left at = omega arith
shifted (suc fuel) len first left at =
    let more : ℕ = left - room len first most_size in
    by_test (nat_lt left (2 ^ 24)) (shifted fuel len false more (at + most_size)) (shifted fuel len false more (0 + most_size))
  where
    by_test : (b : Bool)
        → end_behind (at + most_size) (append_from fuel len false (left - room len first most_size) (at + most_size)) ≡ (at + most_size) + end_behind 0 (append_from fuel len false (left - room len first most_size) 0)
        → end_behind (0 + most_size) (append_from fuel len false (left - room len first most_size) (0 + most_size)) ≡ (0 + most_size) + end_behind 0 (append_from fuel len false (left - room len first most_size) 0)
        → end_behind at (append_one len first left at b (λ k. append_from fuel len false k (at + most_size))) ≡ at + end_behind 0 (append_one len first left 0 b (λ k. append_from fuel len false k (0 + most_size)))
    by_test true there here = let last : at + least_size left ≡ at + (0 + least_size left) = omega arith in last
    by_test false there here =
        let all : end_behind (at + most_size) (append_from fuel len false (left - room len first most_size) (at + most_size)) ≡ at + end_behind (0 + most_size) (append_from fuel len false (left - room len first most_size) (0 + most_size)) = omega arith in
        all

end_by : (format : RowFormat) (slot len : ℕ) (s : Space) → (take_behind format slot s len).space.end ≡ s.end + size_by format slot len
end_by Static slot len s = refl
end_by Dynamic slot len s = shifted len len true len s.end

end_one : (d : Defs) (s : TableState) (row : Values) → (accepted d s (insert_at_end row)).state.space.end ≡ s.space.end + size_of d (spelling d row)
unfolding accepted
end_one d s row = end_by d.format d.slot_length (length (spelling d row)) s.space

pub ends : (d : Defs) (s : TableState) (rows : List Values) → (with_rows d s rows).space.end ≡ end_with d s.space.end (packed_rows d rows)
ends d s [] = let none : s.space.end ≡ s.space.end + 0 = omega arith in none
ends d s (x ∷ xs) =
    let next : TableState = (accepted d s (insert_at_end x)).state in
    let rest : (with_rows d next xs).space.end ≡ next.space.end + sum_by (size_of d) (map (spelling d) xs) = ends d next xs in
    let here : next.space.end ≡ s.space.end + size_of d (spelling d x) = end_one d s x in
    let sum : sum_by (size_of d) (map (spelling d) (x ∷ xs)) ≡ size_of d (spelling d x) + sum_by (size_of d) (map (spelling d) xs) = sum_by-cons (size_of d) (spelling d x) (map (spelling d) xs) in
    let all : (with_rows d next xs).space.end ≡ s.space.end + sum_by (size_of d) (map (spelling d) (x ∷ xs)) = omega arith in
    all
