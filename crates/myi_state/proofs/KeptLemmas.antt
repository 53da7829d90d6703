-- Each accepted change leads from a state of the table to one.
use Rattle.std.proofs.Common.{◌≡◌, ◌≢◌, ℕ, ◌+◌, ◌<◌, List, [], ◌∷◌, ◌++◌, length, Option, Some, None, Ok, Err, refl, sym, ap, subst, ◌∙◌, arith}
use Rattle.std.specs.List.{AllByRecursion}
use Rattle.myi_defs.specs.declared.types.RowFormat.{RowFormat}
use Rattle.myi_defs.specs.declared.types.RowFormat.TheVariants.{Static, Dynamic}
use Rattle.myi_defs.specs.declared.types.Defs.{Defs}
use Rattle.myi_defs.specs.Sound.{IsSound}
use Rattle.myi_pack.specs.Packed.{Values}
use Rattle.myi_pack.specs.Spelling.{spelling}
use Rattle.myi_dellist.specs.Areas.{Area, Tile}
use Rattle.myi_dellist.specs.Releasing.{IsHole, IsFreeable}
use Rattle.myi_dellist.specs.Placing.{Space, next_place}
use Rattle.myi_dellist.specs.Standing.{first_or}
use Rattle.myi_state.specs.State.{StoredRow, TableState, row_areas, put_row, row_at, rows_without, Taken, take_next, take_behind, take_again, give_back}
use Rattle.myi_state.specs.Changes.{Change, insert, insert_at_end, delete, update, Refusal, lacks_row, lacks_room, first_of_two, Changed, with_row, without_row, with_values, accepted, refusal, step, step_by, replay, after_steps, if_accepted, history}
use Rattle.myi_state.specs.Sound.{AreInOrder, AreOneSlot, AreBlocks, AreHoles, IsRow, IsState, HasValues}
use Rattle.myi_state.proofs.RowLemmas.{below-both, below-rising, Begins, row-alone, put-below, without-below, put-order, without-order, put-all, without-all, without-none, without-other, put-same, put-other, found-is}
use Rattle.myi_state.proofs.TakenLemmas.{TakesSpace, IsAligned, IsFours, next-takes, behind-takes, again-takes, back-holes, back-end, back-tile, tile-aligned}

-- ---- what the areas of a state have

one_begins : (size p : ℕ) (areas : List Area) → 0 < size → AreOneSlot size areas → first_or areas None ≡ Some p → Begins p areas
one_begins size p [] some one e = absurd one
one_begins size p (a ∷ []) some one e =
    let at : a.at ≡ p = cc in
    record { size = a.size; some = omega (arith, some, one); more = []; is = ap (λ (q : ℕ). record { at = q; size = a.size } ∷ []) at }
one_begins size p (a ∷ b ∷ areas) some one e = absurd one

blocks_begin : (p : ℕ) (areas : List Area) → AllByRecursion IsFreeable areas → first_or areas None ≡ Some p → Begins p areas
blocks_begin p [] all e = absurd cc
blocks_begin p (a ∷ areas) all e =
    let at : a.at ≡ p = cc in
    record { size = a.size; some = omega (arith, all.0.least); more = areas; is = ap (λ (q : ℕ). record { at = q; size = a.size } ∷ areas) at }

pub areas-begin : (f : RowFormat) (size p : ℕ) (areas : List Area) → (f ≡ Static → 0 < size) → AreBlocks f size areas → first_or areas None ≡ Some p → Begins p areas
areas-begin Static size p areas some all e = one_begins size p areas (some refl) all e
areas-begin Dynamic size p areas some all e = blocks_begin p areas all e

pub slot-some : (d : Defs) → IsSound d → d.format ≡ Static → 0 < d.slot_length
slot-some d s e = omega (arith, s.slot_pointer e)

pub row-begins : (d : Defs) → IsSound d → (r : StoredRow) → IsRow d r → Begins r.at r.blocks
row-begins d s r i = areas-begin d.format d.slot_length r.at r.blocks (slot-some d s) i.blocks i.place

head_some : (f : RowFormat) (size : ℕ) (h : Area) (holes : List Area) → (f ≡ Static → 0 < size) → AreHoles f size (h ∷ holes) → 0 < h.size
head_some Static size h holes some all = omega (arith, some refl, all.0)
head_some Dynamic size h holes some all = omega (arith, all.0.least)

-- ---- the end of blocks

freeable_fours : (areas rest : List Area) → AllByRecursion IsFreeable areas → AllByRecursion IsFours rest → AllByRecursion IsFours (areas ++ rest)
freeable_fours [] rest all more = more
freeable_fours (a ∷ areas) rest all more = (record { multiple = all.0.multiple; some = omega (arith, all.0.least) }, freeable_fours areas rest all.1 more)

hole_fours : (holes : List Area) → AllByRecursion IsHole holes → AllByRecursion IsFours holes
hole_fours [] all = tt
hole_fours (h ∷ holes) all = (record { multiple = all.0.multiple; some = omega (arith, all.0.least) }, hole_fours holes all.1)

-- each row has such blocks
abbrev HaveBlocks : RowFormat → ℕ → StoredRow → Type 0
HaveBlocks f size r = AreBlocks f size r.blocks

row_fours : (size : ℕ) (rows : List StoredRow) (rest : List Area) → AllByRecursion (HaveBlocks Dynamic size) rows → AllByRecursion IsFours rest → AllByRecursion IsFours (row_areas rows ++ rest)
row_fours size [] rest all more = more
row_fours size (r ∷ rows) rest all more = subst (λ (xs : List Area). AllByRecursion IsFours xs) (assoc r.blocks (row_areas rows) rest) (freeable_fours r.blocks (row_areas rows ++ rest) all.0 (row_fours size rows rest all.1 more))
  where
    assoc : (xs ys zs : List Area) → xs ++ (ys ++ zs) ≡ (xs ++ ys) ++ zs
    assoc [] ys zs = refl
    assoc (x ∷ xs) ys zs = ap (λ (r : List Area). x ∷ r) (assoc xs ys zs)

have_blocks : (d : Defs) (rows : List StoredRow) → AllByRecursion (IsRow d) rows → AllByRecursion (HaveBlocks d.format d.slot_length) rows
have_blocks d [] all = tt
have_blocks d (r ∷ rows) all = (all.0.blocks, have_blocks d rows all.1)

aligned_by : (f : RowFormat) (size end : ℕ) (rows : List StoredRow) (holes : List Area) → AllByRecursion (HaveBlocks f size) rows → AreHoles f size holes → Tile end (row_areas rows ++ holes) → IsAligned f end
aligned_by Static size end rows holes all gone tile = tt
aligned_by Dynamic size end rows holes all gone tile = tile-aligned end (row_areas rows ++ holes) (row_fours size rows holes all (hole_fours holes gone)) tile

pub state-aligned : (d : Defs) (s : TableState) → IsState d s → IsAligned d.format s.space.end
state-aligned d s i = aligned_by d.format d.slot_length s.space.end s.rows s.space.holes (have_blocks d s.rows i.rows) i.holes i.tile

-- ---- no row stands where a new one goes

pub end-free : (d : Defs) (s : TableState) → IsSound d → IsState d s → row_at s.space.end s.rows ≡ None
end-free d s sound i = by_row (row_at s.space.end s.rows) refl
  where
    by_row : (o : Option StoredRow) → row_at s.space.end s.rows ≡ o → o ≡ None
    by_row None e = refl
    by_row (Some r) e =
        let is = found-is (IsRow d) s.space.end s.rows r e i.rows in
        let b = subst (λ (p : ℕ). Begins p r.blocks) is.1 (row-begins d sound r is.0) in
        let alone = (row-alone s.space.end s.space.end s.rows s.space.holes r i.tile e b).0 in
        absurd (omega (arith, alone))

head_free : (d : Defs) (rows : List StoredRow) (h : Area) (holes : List Area) (end : ℕ) → IsSound d → AllByRecursion (IsRow d) rows → AreHoles d.format d.slot_length (h ∷ holes) → Tile end (row_areas rows ++ (h ∷ holes)) → row_at h.at rows ≡ None
head_free d rows h holes end sound all gone tile = by_row (row_at h.at rows) refl
  where
    by_row : (o : Option StoredRow) → row_at h.at rows ≡ o → o ≡ None
    by_row None e = refl
    by_row (Some r) e =
        let is = found-is (IsRow d) h.at rows r e all in
        let b = subst (λ (p : ℕ). Begins p r.blocks) is.1 (row-begins d sound r is.0) in
        let alone = (row-alone h.at end rows (h ∷ holes) r tile e b).1 in
        let rise = below-rising h.at (h.at + 1) holes (omega arith) in
        let some = head_some d.format d.slot_length h holes (slot-some d sound) gone in
        absurd (omega (arith, alone, rise, some))

next_free_by : (d : Defs) (rows : List StoredRow) (holes : List Area) (end : ℕ) → IsSound d → AllByRecursion (IsRow d) rows → AreHoles d.format d.slot_length holes → Tile end (row_areas rows ++ holes) → row_at end rows ≡ None → row_at (next_place holes end) rows ≡ None
next_free_by d rows [] end sound all gone tile free = free
next_free_by d rows (h ∷ holes) end sound all gone tile free = head_free d rows h holes end sound all gone tile

pub next-free : (d : Defs) (s : TableState) → IsSound d → IsState d s → row_at (next_place s.space.holes s.space.end) s.rows ≡ None
next-free d s sound i = next_free_by d s.rows s.space.holes s.space.end sound i.rows i.holes i.tile (end-free d s sound i)

-- ---- a row goes in

-- a row takes the space of one with these blocks, or of none, beside other rows
pub with-row-state : (d : Defs) (at : ℕ) (values : Values) (s : Space) (own : List Area) (t : Taken) (rows : List StoredRow) → AreInOrder 0 rows → AllByRecursion (IsRow d) rows → row_at at rows ≡ None → Tile s.end (row_areas rows ++ (own ++ s.holes)) → TakesSpace d.format d.slot_length at s own t → IsState d (with_row at values t rows).state
with-row-state d at values s own t rows order all free tile k =
    let r : StoredRow = record { at = at; values = values; blocks = t.blocks } in
    record {
      order = put-order 0 r rows (omega arith) free order;
      rows = put-all (IsRow d) r rows (record { place = k.place; blocks = k.blocks }) all;
      holes = k.holes;
      tile = λ p. omega (arith, k.tile (row_areas rows) tile p, below-both p (row_areas rows) (t.blocks ++ t.space.holes), below-both p t.blocks t.space.holes, below-both p (row_areas (put_row r rows)) t.space.holes, put-below p r rows);
    }

-- the others of a state, with the blocks of the row that is left out
pub others-tile : (end at : ℕ) (rows : List StoredRow) (holes : List Area) (r : StoredRow) → row_at at rows ≡ Some r → Tile end (row_areas rows ++ holes) → Tile end (row_areas (rows_without at rows) ++ (r.blocks ++ holes))
others-tile end at rows holes r e tile p =
    omega (arith, tile p, below-both p (row_areas rows) holes, without-below p at rows r e, below-both p (row_areas (rows_without at rows)) (r.blocks ++ holes), below-both p r.blocks holes)

deleted_state : (d : Defs) (s : TableState) (at : ℕ) → IsState d s → IsState d (without_row d s at (row_at at s.rows)).state
deleted_state d s at i = by_row (row_at at s.rows) refl
  where
    by_row : (o : Option StoredRow) → row_at at s.rows ≡ o → IsState d (without_row d s at o).state
    by_row None e = i
    by_row (Some r) e =
        let is = found-is (IsRow d) at s.rows r e i.rows in
        let end = back-end d.format s.space r.blocks in
        record {
          order = without-order 0 at s.rows i.order;
          rows = without-all (IsRow d) at s.rows i.rows;
          holes = back-holes d.format d.slot_length s.space r.blocks is.0.blocks i.holes;
          tile = subst (λ (q : ℕ). Tile q (row_areas (rows_without at s.rows) ++ (give_back d.format s.space r.blocks).holes)) (sym end) (back-tile d.format s.space r.blocks (row_areas (rows_without at s.rows)) (others-tile s.space.end at s.rows s.space.holes r e i.tile));
        }

updated_state : (d : Defs) (s : TableState) (at : ℕ) (values : Values) → 0 < length (spelling d values) → IsState d s → IsState d (with_values d s at values (row_at at s.rows)).state
updated_state d s at values some i = by_row (row_at at s.rows) refl
  where
    by_row : (o : Option StoredRow) → row_at at s.rows ≡ o → IsState d (with_values d s at values o).state
    by_row None e = i
    by_row (Some r) e =
        let is = found-is (IsRow d) at s.rows r e i.rows in
        let len = length (spelling d values) in
        let k = again-takes d.format d.slot_length s.space r.blocks len at some (state-aligned d s i) is.0.blocks i.holes (is.0.place ∙ ap (λ (q : ℕ). Some q) is.1) in
        with-row-state d at values s.space r.blocks (take_again d.format s.space r.blocks len) (rows_without at s.rows) (without-order 0 at s.rows i.order) (without-all (IsRow d) at s.rows i.rows) (without-none 0 at s.rows i.order) (others-tile s.space.end at s.rows s.space.holes r e i.tile) k

-- ---- a change

-- a row that comes has a byte
abbrev pub ComesWithBytes : Defs → Change → Type 0
ComesWithBytes d (insert values) = 0 < length (spelling d values)
ComesWithBytes d (insert_at_end values) = 0 < length (spelling d values)
ComesWithBytes d (delete at) = Unit {0}
ComesWithBytes d (update at values) = 0 < length (spelling d values)

pub accepted-state : (d : Defs) (s : TableState) (c : Change) → IsSound d → ComesWithBytes d c → IsState d s → IsState d (accepted d s c).state
unfolding accepted
accepted-state d s (insert values) sound some i =
    let len = length (spelling d values) in
    let k = next-takes d.format d.slot_length s.space len some (state-aligned d s i) i.holes in
    with-row-state d (next_place s.space.holes s.space.end) values s.space [] (take_next d.format d.slot_length s.space len) s.rows i.order i.rows (next-free d s sound i) i.tile k
accepted-state d s (insert_at_end values) sound some i =
    let len = length (spelling d values) in
    let k = behind-takes d.format d.slot_length s.space len some (state-aligned d s i) i.holes in
    with-row-state d s.space.end values s.space [] (take_behind d.format d.slot_length s.space len) s.rows i.order i.rows (end-free d s sound i) i.tile k
accepted-state d s (delete at) sound some i = deleted_state d s at i
accepted-state d s (update at values) sound some i = updated_state d s at values some i

step_state_by : (d : Defs) (s : TableState) (done : Changed) (r : Option Refusal) → IsState d s → IsState d done.state → IsState d (step_by s done r).state
step_state_by d s done None i j = j
step_state_by d s done (Some r) i j = i

pub step-state : (d : Defs) (s : TableState) (c : Change) → IsSound d → ComesWithBytes d c → IsState d s → IsState d (step d s c).state
unfolding step
step-state d s c sound some i = step_state_by d s (accepted d s c) (refusal d s c) i (accepted-state d s c sound some i)

-- ---- other rows

-- where a change is made no row stands behind a delete, and else the row with its values
abbrev pub Leaves : Change → Option StoredRow → Type 0
Leaves (insert values) o = (r : StoredRow) × (o ≡ Some r) × (r.values ≡ values)
Leaves (insert_at_end values) o = (r : StoredRow) × (o ≡ Some r) × (r.values ≡ values)
Leaves (delete at) o = o ≡ None
Leaves (update at values) o = (r : StoredRow) × (o ≡ Some r) × (r.values ≡ values)

others_by : (d : Defs) (s : TableState) (at q : ℕ) (o : Option StoredRow) → q ≢ at → row_at q (without_row d s at o).state.rows ≡ row_at q s.rows
others_by d s at q None ne = refl
others_by d s at q (Some r) ne = without-other at q s.rows ne

values_by : (d : Defs) (s : TableState) (at q : ℕ) (values : Values) (o : Option StoredRow) → q ≢ at → row_at q (with_values d s at values o).state.rows ≡ row_at q s.rows
values_by d s at q values None ne = refl
values_by d s at q values (Some r) ne =
    put-other (record { at = at; values = values; blocks = (take_again d.format s.space r.blocks (length (spelling d values))).blocks }) q (rows_without at s.rows) ne ∙ without-other at q s.rows ne

place_by : (d : Defs) (s : TableState) (at : ℕ) (o : Option StoredRow) → (without_row d s at o).at ≡ at
place_by d s at None = refl
place_by d s at (Some r) = refl

values_place_by : (d : Defs) (s : TableState) (at : ℕ) (values : Values) (o : Option StoredRow) → (with_values d s at values o).at ≡ at
values_place_by d s at values None = refl
values_place_by d s at values (Some r) = refl

pub others-stay : (d : Defs) (s : TableState) (c : Change) (q : ℕ) → q ≢ (accepted d s c).at → row_at q (accepted d s c).state.rows ≡ row_at q s.rows
unfolding accepted
others-stay d s (insert values) q ne = put-other (record { at = next_place s.space.holes s.space.end; values = values; blocks = (take_next d.format d.slot_length s.space (length (spelling d values))).blocks }) q s.rows ne
others-stay d s (insert_at_end values) q ne = put-other (record { at = s.space.end; values = values; blocks = (take_behind d.format d.slot_length s.space (length (spelling d values))).blocks }) q s.rows ne
others-stay d s (delete at) q ne = others_by d s at q (row_at at s.rows) (λ e. ne (e ∙ sym (place_by d s at (row_at at s.rows))))
others-stay d s (update at values) q ne = values_by d s at q values (row_at at s.rows) (λ e. ne (e ∙ sym (values_place_by d s at values (row_at at s.rows))))

-- ---- replays

replay-append : (d : Defs) (s : TableState) (xs ys : List Change) → replay d s (xs ++ ys) ≡ replay d (replay d s xs) ys
replay-append d s [] ys = refl
replay-append d s (x ∷ xs) ys = replay-append d (accepted d s x).state xs ys

one_replayed : (d : Defs) (s : TableState) (c : Change) (o : Option Refusal) → replay d s (if_accepted c (step_by s (accepted d s c) o).reply) ≡ (step_by s (accepted d s c) o).state
one_replayed d s c None = refl
one_replayed d s c (Some r) = refl

step_replayed : (d : Defs) (s : TableState) (c : Change) → replay d s (if_accepted c (step d s c).reply) ≡ (step d s c).state
unfolding step
step_replayed d s c = one_replayed d s c (refusal d s c)

pub history-replayed : (d : Defs) (s : TableState) (cs : List Change) → replay d s (history d s cs) ≡ after_steps d s cs
history-replayed d s [] = refl
history-replayed d s (c ∷ cs) =
    replay-append d s (if_accepted c (step d s c).reply) (history d (step d s c).state cs)
    ∙ ap (λ (t : TableState). replay d t (history d (step d s c).state cs)) (step_replayed d s c)
    ∙ history-replayed d (step d s c).state cs

-- ---- the row that is changed

has_same : (values : Values) (o : Option StoredRow) (r : StoredRow) → o ≡ Some r → r.values ≡ values → HasValues values o
has_same values o r e v = subst (λ (q : Option StoredRow). HasValues values q) (sym e) v

pub inserted-there : (d : Defs) (s : TableState) (values : Values) → IsSound d → IsState d s → HasValues values (row_at (accepted d s (insert values)).at (accepted d s (insert values)).state.rows)
unfolding accepted
inserted-there d s values sound i =
    let r : StoredRow = record { at = next_place s.space.holes s.space.end; values = values; blocks = (take_next d.format d.slot_length s.space (length (spelling d values))).blocks } in
    has_same values (row_at r.at (put_row r s.rows)) r (put-same r s.rows (next-free d s sound i)) refl

pub appended-there : (d : Defs) (s : TableState) (values : Values) → IsSound d → IsState d s → HasValues values (row_at (accepted d s (insert_at_end values)).at (accepted d s (insert_at_end values)).state.rows)
unfolding accepted
appended-there d s values sound i =
    let r : StoredRow = record { at = s.space.end; values = values; blocks = (take_behind d.format d.slot_length s.space (length (spelling d values))).blocks } in
    has_same values (row_at r.at (put_row r s.rows)) r (put-same r s.rows (end-free d s sound i)) refl

pub updated-there : (d : Defs) (s : TableState) (at : ℕ) (values : Values) (q : StoredRow) → IsState d s → row_at at s.rows ≡ Some q → HasValues values (row_at at (accepted d s (update at values)).state.rows)
unfolding accepted
updated-there d s at values q i e =
    let r : StoredRow = record { at = at; values = values; blocks = (take_again d.format s.space q.blocks (length (spelling d values))).blocks } in
    subst (λ (o : Option StoredRow). HasValues values (row_at at (with_values d s at values o).state.rows)) (sym e)
    (has_same values (row_at at (put_row r (rows_without at s.rows))) r (put-same r (rows_without at s.rows) (without-none 0 at s.rows i.order)) refl)

pub deleted-gone : (d : Defs) (s : TableState) (at : ℕ) → IsState d s → row_at at (accepted d s (delete at)).state.rows ≡ None
unfolding accepted
deleted-gone d s at i = by_row (row_at at s.rows) refl
  where
    by_row : (o : Option StoredRow) → row_at at s.rows ≡ o → row_at at (without_row d s at o).state.rows ≡ None
    by_row None e = e
    by_row (Some r) e = without-none 0 at s.rows i.order

pub update-place : (d : Defs) (s : TableState) (at : ℕ) (values : Values) → (accepted d s (update at values)).at ≡ at
unfolding accepted
update-place d s at values = values_place_by d s at values (row_at at s.rows)

pub next-free-at : (d : Defs) (s : TableState) (values : Values) → IsSound d → IsState d s → row_at (accepted d s (insert values)).at s.rows ≡ None
unfolding accepted
next-free-at d s values sound i = next-free d s sound i

pub end-free-at : (d : Defs) (s : TableState) (values : Values) → IsSound d → IsState d s → row_at (accepted d s (insert_at_end values)).at s.rows ≡ None
unfolding accepted
end-free-at d s values sound i = end-free d s sound i

-- ---- refusals

left_by : (s : TableState) (done : Changed) (o : Option Refusal) (r : Refusal) → (step_by s done o).reply ≡ Err r → (step_by s done o).state ≡ s
left_by s done None r e = absurd cc
left_by s done (Some q) r e = refl

pub refusal-leaves : (d : Defs) (s : TableState) (c : Change) (r : Refusal) → (step d s c).reply ≡ Err r → (step d s c).state ≡ s
unfolding step
refusal-leaves d s c r e = left_by s (accepted d s c) (refusal d s c) r e

pub row-refused : (d : Defs) (s : TableState) (c : Change) (r : Refusal) → lacks_row s c ≡ Some r → (step d s c).reply ≡ Err r
unfolding step refusal
row-refused d s c r e = ap (λ (o : Option Refusal). (step_by s (accepted d s c) (first_of_two o (lacks_room d s c))).reply) e

pub room-refused : (d : Defs) (s : TableState) (c : Change) → lacks_row s c ≡ None → (r : Refusal) → lacks_room d s c ≡ Some r → (step d s c).reply ≡ Err r
unfolding step refusal
room-refused d s c e r f = ap (λ (o : Option Refusal). (step_by s (accepted d s c) (first_of_two o (lacks_room d s c))).reply) e ∙ ap (λ (o : Option Refusal). (step_by s (accepted d s c) o).reply) f

pub none-refused : (d : Defs) (s : TableState) (c : Change) → lacks_row s c ≡ None → lacks_room d s c ≡ None → (step d s c) ≡ record { reply = Ok (accepted d s c).at; state = (accepted d s c).state }
unfolding step refusal
none-refused d s c e f = ap (λ (o : Option Refusal). step_by s (accepted d s c) (first_of_two o (lacks_room d s c))) e ∙ ap (λ (o : Option Refusal). step_by s (accepted d s c) o) f
