-- Changes of tables with keys, in the words of the clauses.
use Rattle.std.proofs.Common.{◌≡◌, ℕ, true, List, [], ◌∷◌, length, Option, Some, None, Ok, Err, refl, ap, ◌∙◌, subst, sym}
use Rattle.std.specs.Prelude.{option_map}
use Rattle.std.specs.List.{AllByRecursion}
use Rattle.myi_defs.specs.declared.types.Defs.{Defs}
use Rattle.myi_defs.specs.Sound.{IsSound}
use Rattle.myi_pack.specs.Packed.{Values}
use Rattle.myi_pack.specs.Spelling.{fits, spelling}
use Rattle.myi_dellist.specs.Placing.{next_place}
use Rattle.myi_state.specs.State.{StoredRow, TableState, empty_table, row_at, rows_without, take_again}
use Rattle.myi_state.specs.Changes.{Change, insert, insert_at_end, delete, update, Refusal, Changed, next_taken, behind_taken, without_row, with_values, accepted, replay, lacks_row, lacks_room, step, step_by, refusal, first_of_two}
use Rattle.myi_state.specs.Sound.{MayCome}
use Rattle.myi_state.proofs.CallerLemmas.{empty-state, accepted-kept, put-all, without-all}
use Rattle.myi_tablestate.specs.Keyed.{IsTable, Holder, lacks_key, KeyedRefusal, without_keys, by_holder, first_of_three, keyed_refusal, keyed_step_by, keyed_step, after_keyed, if_made, keyed_history}
use Rattle.myi_tablestate.proofs.DistinctLemmas.{Differ, differ_of, of_differ, put_differ, without_differ, none_repeated}

pub empty_kept : (d : Defs) → IsTable d empty_table
empty_kept d = record { state = empty-state d; fit = tt; distinct = tt }

-- ---- a change that is accepted

abbrev Fit : Defs → StoredRow → Type 0
Fit d r = fits d r.values ≡ true

-- what holds of the rows of a table
abbrev Rows : Defs → List StoredRow → Type 0
Rows d rows = AllByRecursion (Fit d) rows × Differ d rows

row_of : ℕ → Values → List Rattle.myi_dellist.specs.Areas.Area → StoredRow
row_of at values blocks = record { at = at; values = values; blocks = blocks }

deleted_by : (d : Defs) (s : TableState) (at : ℕ) (o : Option StoredRow) → Rows d s.rows → Rows d (without_row d s at o).state.rows
deleted_by d s at None rows = rows
deleted_by d s at (Some r) rows = (without-all (Fit d) at s.rows rows.0, without_differ d at s.rows rows.1)

updated_by : (d : Defs) (s : TableState) (at : ℕ) (values : Values) (o : Option StoredRow) → fits d values ≡ true → lacks_key d s (update at values) ≡ None → Rows d s.rows → Rows d (with_values d s at values o).state.rows
updated_by d s at values None may none rows = rows
updated_by d s at values (Some q) may none rows =
    let r : StoredRow = record { at = at; values = values; blocks = (take_again d.format s.space q.blocks (length (spelling d values))).blocks } in (
      put-all (Fit d) r (rows_without at s.rows) may (without-all (Fit d) at s.rows rows.0),
      put_differ d r (rows_without at s.rows) (none_repeated d values (rows_without at s.rows) none) (without_differ d at s.rows rows.1),
    )

rows_kept : (d : Defs) (s : TableState) (c : Change) → MayCome d c → lacks_key d s c ≡ None → Rows d s.rows → Rows d (accepted d s c).state.rows
unfolding accepted
rows_kept d s (insert values) may none rows =
    let r : StoredRow = record { at = next_place s.space.holes s.space.end; values = values; blocks = (next_taken d s.space values).blocks } in
    (put-all (Fit d) r s.rows may rows.0, put_differ d r s.rows (none_repeated d values s.rows none) rows.1)
rows_kept d s (insert_at_end values) may none rows =
    let r : StoredRow = record { at = s.space.end; values = values; blocks = (behind_taken d s.space values).blocks } in
    (put-all (Fit d) r s.rows may rows.0, put_differ d r s.rows (none_repeated d values s.rows none) rows.1)
rows_kept d s (delete at) may none rows = deleted_by d s at (row_at at s.rows) rows
rows_kept d s (update at values) may none rows = updated_by d s at values (row_at at s.rows) may none rows

pub accepted_kept : (d : Defs) (s : TableState) (c : Change) → IsSound d → MayCome d c → IsTable d s → lacks_key d s c ≡ None → IsTable d (accepted d s c).state
accepted_kept d s c sound may t none =
    let rows = rows_kept d s c may none (t.fit, differ_of d s.rows t.distinct) in
    record { state = accepted-kept d s c sound may t.state; fit = rows.0; distinct = of_differ d (accepted d s c).state.rows rows.1 }

-- ---- the first refusal

-- none of the three
record Free (row : Option Refusal) (key : Option Holder) (room : Option Refusal) : Type 0 where
  no_row : row ≡ None
  no_key : key ≡ None
  no_room : room ≡ None

free_of : (row : Option Refusal) (key : Option Holder) (room : Option Refusal) → first_of_three (option_map without_keys row) (option_map by_holder key) (option_map without_keys room) ≡ None → Free row key room
free_of None None None none = record { no_row = refl; no_key = refl; no_room = refl }
free_of None None (Some r) none = absurd cc
free_of None (Some h) room none = absurd cc
free_of (Some r) key room none = absurd cc

is_free : (d : Defs) (s : TableState) (c : Change) → keyed_refusal d s c ≡ None → Free (lacks_row s c) (lacks_key d s c) (lacks_room d s c)
unfolding keyed_refusal
is_free d s c none = free_of (lacks_row s c) (lacks_key d s c) (lacks_room d s c) none

step_by_kept : (d : Defs) (s : TableState) (c : Change) (o : Option KeyedRefusal) → keyed_refusal d s c ≡ o → IsSound d → MayCome d c → IsTable d s → IsTable d (keyed_step_by s (accepted d s c) o).state
step_by_kept d s c None none sound may t = accepted_kept d s c sound may t (is_free d s c none).no_key
step_by_kept d s c (Some r) none sound may t = t

pub step_kept : (d : Defs) (s : TableState) (c : Change) → IsSound d → MayCome d c → IsTable d s → IsTable d (keyed_step d s c).state
unfolding keyed_step
step_kept d s c sound may t = step_by_kept d s c (keyed_refusal d s c) refl sound may t

left_by : (s : TableState) (done : Changed) (o : Option KeyedRefusal) (r : KeyedRefusal) → (keyed_step_by s done o).reply ≡ Err r → (keyed_step_by s done o).state ≡ s
left_by s done None r e = absurd cc
left_by s done (Some q) r e = refl

pub left : (d : Defs) (s : TableState) (c : Change) (r : KeyedRefusal) → (keyed_step d s c).reply ≡ Err r → (keyed_step d s c).state ≡ s
unfolding keyed_step
left d s c r e = left_by s (accepted d s c) (keyed_refusal d s c) r e

pub row_first : (d : Defs) (s : TableState) (c : Change) (r : Refusal) → lacks_row s c ≡ Some r → (keyed_step d s c).reply ≡ Err (without_keys r)
unfolding keyed_step keyed_refusal
row_first d s c r e = ap (λ (o : Option Refusal). (keyed_step_by s (accepted d s c) (first_of_three (option_map without_keys o) (option_map by_holder (lacks_key d s c)) (option_map without_keys (lacks_room d s c)))).reply) e

pub key_next : (d : Defs) (s : TableState) (c : Change) (h : Holder) → lacks_row s c ≡ None → lacks_key d s c ≡ Some h → (keyed_step d s c).reply ≡ Err (by_holder h)
unfolding keyed_step keyed_refusal
key_next d s c h none e =
    ap (λ (o : Option Refusal). (keyed_step_by s (accepted d s c) (first_of_three (option_map without_keys o) (option_map by_holder (lacks_key d s c)) (option_map without_keys (lacks_room d s c)))).reply) none
    ∙ ap (λ (o : Option Holder). (keyed_step_by s (accepted d s c) (first_of_three None (option_map by_holder o) (option_map without_keys (lacks_room d s c)))).reply) e

pub room_last : (d : Defs) (s : TableState) (c : Change) (r : Refusal) → lacks_row s c ≡ None → lacks_key d s c ≡ None → lacks_room d s c ≡ Some r → (keyed_step d s c).reply ≡ Err (without_keys r)
unfolding keyed_step keyed_refusal
room_last d s c r none free e =
    ap (λ (o : Option Refusal). (keyed_step_by s (accepted d s c) (first_of_three (option_map without_keys o) (option_map by_holder (lacks_key d s c)) (option_map without_keys (lacks_room d s c)))).reply) none
    ∙ ap (λ (o : Option Holder). (keyed_step_by s (accepted d s c) (first_of_three None (option_map by_holder o) (option_map without_keys (lacks_room d s c)))).reply) free
    ∙ ap (λ (o : Option Refusal). (keyed_step_by s (accepted d s c) (option_map without_keys o)).reply) e

pub none_refused : (d : Defs) (s : TableState) (c : Change) → keyed_refusal d s c ≡ None → ((keyed_step d s c).reply ≡ Ok (accepted d s c).at) × ((keyed_step d s c).state ≡ (accepted d s c).state)
unfolding keyed_step
none_refused d s c none =
    (ap (λ (o : Option KeyedRefusal). (keyed_step_by s (accepted d s c) o).reply) none, ap (λ (o : Option KeyedRefusal). (keyed_step_by s (accepted d s c) o).state) none)

pub none_of_three : (d : Defs) (s : TableState) (c : Change) → lacks_row s c ≡ None → lacks_key d s c ≡ None → lacks_room d s c ≡ None → keyed_refusal d s c ≡ None
unfolding keyed_refusal
none_of_three d s c row key room =
    ap (λ (o : Option Refusal). first_of_three (option_map without_keys o) (option_map by_holder (lacks_key d s c)) (option_map without_keys (lacks_room d s c))) row
    ∙ ap (λ (o : Option Holder). first_of_three None (option_map by_holder o) (option_map without_keys (lacks_room d s c))) key
    ∙ ap (λ (o : Option Refusal). option_map without_keys o) room

-- ---- histories

one_replayed : (d : Defs) (s : TableState) (c : Change) (later : List Change) (o : Option KeyedRefusal) → replay d s (if_made c later (keyed_step_by s (accepted d s c) o).reply) ≡ replay d (keyed_step_by s (accepted d s c) o).state later
one_replayed d s c later None = refl
one_replayed d s c later (Some r) = refl

step_replayed : (d : Defs) (s : TableState) (c : Change) (later : List Change) → replay d s (if_made c later (keyed_step d s c).reply) ≡ replay d (keyed_step d s c).state later
unfolding keyed_step
step_replayed d s c later = one_replayed d s c later (keyed_refusal d s c)

pub history_replayed : (d : Defs) (s : TableState) (cs : List Change) → replay d s (keyed_history d s cs) ≡ after_keyed d s cs
history_replayed d s [] = refl
history_replayed d s (c ∷ cs) = step_replayed d s c (keyed_history d (keyed_step d s c).state cs) ∙ history_replayed d (keyed_step d s c).state cs

-- ---- steps without keys

made_by : (d : Defs) (s : TableState) (c : Change) (row room : Option Refusal) (at : ℕ) → (step_by s (accepted d s c) (first_of_two row room)).reply ≡ Ok at → (keyed_step_by s (accepted d s c) (first_of_three (option_map without_keys row) None (option_map without_keys room))).reply ≡ Ok at
made_by d s c (Some r) room at is = absurd cc
made_by d s c None (Some r) at is = absurd cc
made_by d s c None None at is = let same : (accepted d s c).at ≡ at = cc in ap Ok same

made_state : (d : Defs) (s : TableState) (c : Change) (row room : Option Refusal) (at : ℕ) → (step_by s (accepted d s c) (first_of_two row room)).reply ≡ Ok at → (keyed_step_by s (accepted d s c) (first_of_three (option_map without_keys row) None (option_map without_keys room))).state ≡ (step_by s (accepted d s c) (first_of_two row room)).state
made_state d s c (Some r) room at is = absurd cc
made_state d s c None (Some r) at is = absurd cc
made_state d s c None None at is = refl

refused_by : (d : Defs) (s : TableState) (c : Change) (row room : Option Refusal) (r : Refusal) → (step_by s (accepted d s c) (first_of_two row room)).reply ≡ Err r → (keyed_step_by s (accepted d s c) (first_of_three (option_map without_keys row) None (option_map without_keys room))).reply ≡ Err (without_keys r)
refused_by d s c (Some q) room r is = let same : q ≡ r = cc in ap (λ (t : Refusal). Err (without_keys t)) same
refused_by d s c None (Some q) r is = let same : q ≡ r = cc in ap (λ (t : Refusal). Err (without_keys t)) same
refused_by d s c None None r is = absurd cc

pub steps_made : (d : Defs) (s : TableState) (c : Change) (at : ℕ) → lacks_key d s c ≡ None → (step d s c).reply ≡ Ok at → ((keyed_step d s c).reply ≡ Ok at) × ((keyed_step d s c).state ≡ (step d s c).state)
unfolding step refusal keyed_step keyed_refusal
steps_made d s c at none is = (
  subst (λ (o : Option Holder). (keyed_step_by s (accepted d s c) (first_of_three (option_map without_keys (lacks_row s c)) (option_map by_holder o) (option_map without_keys (lacks_room d s c)))).reply ≡ Ok at) (sym none) (made_by d s c (lacks_row s c) (lacks_room d s c) at is),
  subst (λ (o : Option Holder). (keyed_step_by s (accepted d s c) (first_of_three (option_map without_keys (lacks_row s c)) (option_map by_holder o) (option_map without_keys (lacks_room d s c)))).state ≡ (step_by s (accepted d s c) (first_of_two (lacks_row s c) (lacks_room d s c))).state) (sym none) (made_state d s c (lacks_row s c) (lacks_room d s c) at is),
)

pub steps_refused : (d : Defs) (s : TableState) (c : Change) (r : Refusal) → lacks_key d s c ≡ None → (step d s c).reply ≡ Err r → (keyed_step d s c).reply ≡ Err (without_keys r)
unfolding step refusal keyed_step keyed_refusal
steps_refused d s c r none is =
    subst (λ (o : Option Holder). (keyed_step_by s (accepted d s c) (first_of_three (option_map without_keys (lacks_row s c)) (option_map by_holder o) (option_map without_keys (lacks_room d s c)))).reply ≡ Err (without_keys r)) (sym none) (refused_by d s c (lacks_row s c) (lacks_room d s c) r is)
