-- Rows that are inserted at the end stand behind those that were there.
use Rattle.std.proofs.Common.{◌≡◌, ℕ, ◌+◌, ◌<◌, ◌≤◌, nat_lt, List, [], ◌∷◌, ◌++◌, Some, None, Bool, true, false, cond, refl, ap, ◌∙◌, arith}
use Rattle.std.specs.List.{AllByRecursion}
use Rattle.std.proofs.lemmas.Bool.Decides.{nat_tests}
use Rattle.myi_defs.specs.declared.types.Defs.{Defs}
use Rattle.myi_defs.specs.Sound.{IsSound}
use Rattle.myi_pack.specs.Packed.{Values}
use Rattle.myi_dellist.specs.Areas.{Area, HaveBytes, AreInside}
use Rattle.myi_dellist.specs.Standing.{first_or}
use Rattle.myi_dellist.proofs.CallerLemmas.{tile-inside}
use Rattle.myi_state.specs.State.{StoredRow, TableState, row_areas, put_row}
use Rattle.myi_state.specs.Changes.{Change, insert, insert_at_end, delete, update, accepted, replay, behind_taken}
use Rattle.myi_state.specs.Sound.{IsRow, IsState}
use Rattle.myi_state.proofs.CallerLemmas.{accepted-kept, halves-of, state-bytes}
use Rattle.myi_history.specs.Appending.{AreAppends, rows_before}

-- ---- rows stand before the end

first_before : (end at : ℕ) (blocks others : List Area) → first_or blocks None ≡ Some at → HaveBytes (blocks ++ others) → AreInside end (blocks ++ others) → at < end
first_before end at [] others is bytes inside = let k = is in absurd cc
first_before end at (a ∷ blocks) others is bytes inside = let k : a.at ≡ at = (let q = is in cc) in let b : 0 < a.size = bytes.0 in let i : a.at + a.size ≤ end = inside.0 in omega arith

drop_front : (P : Area → Type 0) (xs ys : List Area) → AllByRecursion P (xs ++ ys) → AllByRecursion P ys
drop_front P [] ys h = h
drop_front P (x ∷ xs) ys h = drop_front P xs ys h.1

abbrev pub Before : ℕ → List StoredRow → Type 0
Before end rows = AllByRecursion (λ (r : StoredRow). r.at < end) rows

each_before : (d : Defs) (end : ℕ) (rows : List StoredRow) → AllByRecursion (IsRow d) rows → HaveBytes (row_areas rows) → AreInside end (row_areas rows) → Before end rows
each_before d end [] are bytes inside = tt
each_before d end (r ∷ rows) are bytes inside = (
  (let k = are.0 in first_before end r.at r.blocks (row_areas rows) k.place bytes inside),
  each_before d end rows are.1 (drop_front _ r.blocks (row_areas rows) bytes) (drop_front _ r.blocks (row_areas rows) inside),
)

rows_before_end : (d : Defs) (s : TableState) → IsSound d → IsState d s → Before s.space.end s.rows
rows_before_end d s sound state =
    let areas = row_areas s.rows ++ s.space.holes in
    let bytes = state-bytes d s sound state in
    let both = halves-of s.space.end (row_areas s.rows) s.space.holes bytes (tile-inside s.space.end areas bytes state.tile) in
    each_before d s.space.end s.rows state.rows both.0.0 both.0.1

-- ---- and a new one at the end

less_yes : (a b : ℕ) → a < b → nat_lt a b ≡ true
less_yes a b l = grind (arith, nat_tests)

less_no : (a b : ℕ) → b ≤ a → nat_lt a b ≡ false
less_no a b l = grind (arith, nat_tests)

all_stay : (end : ℕ) (rows : List StoredRow) → Before end rows → rows_before end rows ≡ rows
all_stay end [] h = refl
all_stay end (r ∷ rows) h = rw (less_yes r.at end h.0) (ap (λ q. r ∷ q) (all_stay end rows h.1))

put_behind : (end : ℕ) (r : StoredRow) (rows : List StoredRow) → end ≤ r.at → rows_before end (put_row r rows) ≡ rows_before end rows
put_behind end r [] l = rw (less_no r.at end l) refl
put_behind end r (q ∷ rows) l = go (nat_lt q.at r.at) (put_behind end r rows l)
  where
    go : (b : Bool) → rows_before end (put_row r rows) ≡ rows_before end rows → rows_before end (cond b (q ∷ put_row r rows) (r ∷ q ∷ rows)) ≡ rows_before end (q ∷ rows)
    go true e = rw e refl
    go false e = rw (less_no r.at end l) refl

put_has : (end : ℕ) (r : StoredRow) (rows : List StoredRow) → Before end (put_row r rows) → r.at < end
put_has end r [] h = h.0
put_has end r (q ∷ rows) h = go (nat_lt q.at r.at) h (put_has end r rows)
  where
    go : (b : Bool) → Before end (cond b (q ∷ put_row r rows) (r ∷ q ∷ rows)) → (Before end (put_row r rows) → r.at < end) → r.at < end
    go true k more = more k.1
    go false k more = k.0

-- one more at the end
grows : (d : Defs) (s : TableState) (values : Values) → IsSound d → IsState d (accepted d s (insert_at_end values)).state → s.space.end < (accepted d s (insert_at_end values)).state.space.end
unfolding accepted
grows d s values sound next =
    put_has (behind_taken d s.space values).space.end (record { at = s.space.end; values = values; blocks = (behind_taken d s.space values).blocks }) s.rows
    (rows_before_end d (accepted d s (insert_at_end values)).state sound next)

front_stays : (d : Defs) (end : ℕ) (s : TableState) (values : Values) → end ≤ s.space.end → rows_before end (accepted d s (insert_at_end values)).state.rows ≡ rows_before end s.rows
unfolding accepted
front_stays d end s values l = put_behind end (record { at = s.space.end; values = values; blocks = (behind_taken d s.space values).blocks }) s.rows l

front_of : (d : Defs) (end : ℕ) (s : TableState) (cs : List Change) → IsSound d → IsState d s → end ≤ s.space.end → AreAppends d cs → rows_before end (replay d s cs).rows ≡ rows_before end s.rows
front_of d end s [] sound state l are = refl
front_of d end s (insert_at_end values ∷ cs) sound state l are =
    let next = accepted-kept d s (insert_at_end values) sound are.0 state in
    let more = grows d s values sound next in
    front_of d end (accepted d s (insert_at_end values)).state cs sound next (omega arith) are.1 ∙ front_stays d end s values l
front_of d end s (insert values ∷ cs) sound state l are = absurd are.0
front_of d end s (delete at ∷ cs) sound state l are = absurd are.0
front_of d end s (update at values ∷ cs) sound state l are = absurd are.0

pub appends_stand_behind : (d : Defs) (s : TableState) (cs : List Change) → IsSound d → IsState d s → AreAppends d cs → rows_before s.space.end (replay d s cs).rows ≡ s.rows
appends_stand_behind d s cs sound state are = front_of d s.space.end s cs sound state (omega arith) are ∙ all_stay s.space.end s.rows (rows_before_end d s sound state)

-- the table does not end before the end that was
pub appends_grow : (d : Defs) (s : TableState) (cs : List Change) → IsSound d → IsState d s → AreAppends d cs → s.space.end ≤ (replay d s cs).space.end
appends_grow d s [] sound state are = omega arith
appends_grow d s (insert_at_end values ∷ cs) sound state are =
    let next = accepted-kept d s (insert_at_end values) sound are.0 state in
    let more = grows d s values sound next in
    let rest = appends_grow d (accepted d s (insert_at_end values)).state cs sound next are.1 in
    omega (arith, more, rest)
appends_grow d s (insert values ∷ cs) sound state are = absurd are.0
appends_grow d s (delete at ∷ cs) sound state are = absurd are.0
appends_grow d s (update at values ∷ cs) sound state are = absurd are.0
