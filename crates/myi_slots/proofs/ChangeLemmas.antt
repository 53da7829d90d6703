-- Each accepted change of a static table, as bytes: the file stands for the state behind it.
use Rattle.std.proofs.Common.{◌≡◌, ℕ, ◌+◌, ◌<◌, ◌≤◌, true, List, [], ◌∷◌, ◌++◌, length, Option, Some, None, refl, sym, ap, subst, ◌∙◌, arith}
use Rattle.std.specs.List.{AllByRecursion}
use Rattle.myi_base.specs.Holding.{overwritten}
use Rattle.myi_defs.specs.declared.types.RowFormat.{RowFormat}
use Rattle.myi_defs.specs.declared.types.RowFormat.TheVariants.{Static, Dynamic}
use Rattle.myi_defs.specs.declared.types.Defs.{Defs}
use Rattle.myi_defs.specs.Sound.{IsSound}
use Rattle.myi_pack.specs.Packed.{Values}
use Rattle.myi_pack.specs.Spelling.{spelling, fits}
use Rattle.myi_frames.proofs.CallerLemmas.{length-overwritten}
use Rattle.myi_dellist.specs.Areas.{Area, Tile, HaveBytes, AreInside}
use Rattle.myi_dellist.specs.Placing.{Space, next_place}
use Rattle.myi_dellist.specs.Standing.{first_or}
use Rattle.myi_dellist.proofs.CallerLemmas.{tile-inside}
use Rattle.myi_state.specs.State.{StoredRow, TableState, row_areas, row_at, rows_without, Taken, next_slot, slot_behind, take_next, take_behind, take_again, give_back}
use Rattle.myi_state.specs.Changes.{insert, insert_at_end, delete, update, with_row, without_row, with_values, accepted}
use Rattle.myi_state.specs.Sound.{IsSlot, AreOneSlot, IsState}
use Rattle.myi_state.specs.Standing.{StandsInSlot, StandsFor}
use Rattle.myi_state.proofs.CallerLemmas.{accepted-kept, without-all, found-is, others-tile, state-bytes}
use Rattle.myi_slots.specs.SlotBytes.{hole_bytes}
use Rattle.myi_slots.proofs.SlotLemmas.{InSlots, length-hole}
use Rattle.myi_slots.proofs.StandLemmas.{IsStatic, static-of, AreFree, free-in, free-behind, row-written, IsHead, hole-written, all-slots}

slots_bytes : (size : ℕ) (areas : List Area) → 0 < size → AllByRecursion (IsSlot size) areas → HaveBytes areas
slots_bytes size [] some all = tt
slots_bytes size (a ∷ areas) some all = (omega (arith, some, all.0), slots_bytes size areas some all.1)

last_inside : (end : ℕ) (xs : List Area) (a : Area) (ys : List Area) → AreInside end (xs ++ (a ∷ ys)) → a.at + a.size ≤ end
last_inside end [] a ys all = all.0
last_inside end (x ∷ xs) a ys all = last_inside end xs a ys all.1

-- a file is no longer where a slot in it is written
same_length : (end at : ℕ) (bytes x : List ℕ) → length x ≡ end → at + length bytes ≤ end → length (overwritten at bytes x) ≡ end
same_length end at bytes x long inside = omega (arith, length-overwritten at bytes x, long, inside)

-- ---- a new row

inserted_by : (d : Defs) (rows : List StoredRow) (holes : List Area) (end : ℕ) (x : List ℕ) (values : Values) → IsSound d → d.format ≡ Static → fits d values ≡ true → length (spelling d values) ≡ d.slot_length → IsStatic d (record { rows = rows; space = record { holes = holes; end = end } }) x → IsState d (with_row (next_place holes end) values (next_slot d.slot_length holes end) rows).state → StandsFor d (with_row (next_place holes end) values (next_slot d.slot_length holes end) rows).state (overwritten (next_place holes end) (spelling d values) x)
inserted_by d rows [] end x values sound static fit sized k state =
    let s : TableState = record { rows = rows; space = record { holes = []; end = end } } in
    row-written d end values (next_slot d.slot_length [] end) rows (record { at = end; size = d.slot_length }) x sound static fit sized refl refl
    (free-behind d s x sound k) state (omega (arith, length-overwritten end (spelling d values) x, k.long, sized)) k.slots k.stand tt tt
inserted_by d rows (h ∷ holes) end x values sound static fit sized k state =
    let s : TableState = record { rows = rows; space = record { holes = h ∷ holes; end = end } } in
    let all = row_areas rows ++ (h ∷ holes) in
    let bytes = state-bytes d s sound k.state in
    let inside = last_inside end (row_areas rows) h holes (tile-inside end all bytes k.state.tile) in
    row-written d h.at values (next_slot d.slot_length (h ∷ holes) end) rows h x sound static fit sized refl k.holes.0
    (free-in end x h rows holes k.long bytes k.state.tile) state (same_length end h.at (spelling d values) x k.long (omega (arith, inside, k.holes.0, sized))) k.slots k.stand k.holes.1 k.list.2

pub next_static : (f : RowFormat) (size len : ℕ) (s : Space) → f ≡ Static → take_next f size s len ≡ next_slot size s.holes s.end
next_static Static size len s e = refl
next_static Dynamic size len s e = absurd cc

pub behind_static : (f : RowFormat) (size len : ℕ) (s : Space) → f ≡ Static → take_behind f size s len ≡ slot_behind size s.holes s.end
behind_static Static size len s e = refl
behind_static Dynamic size len s e = absurd cc

pub again_static : (f : RowFormat) (own : List Area) (len : ℕ) (s : Space) → f ≡ Static → take_again f s own len ≡ record { blocks = own; space = s }
again_static Static own len s e = refl
again_static Dynamic own len s e = absurd cc

pub back_static : (f : RowFormat) (own : List Area) (s : Space) → f ≡ Static → give_back f s own ≡ record { holes = own ++ s.holes; end = s.end }
back_static Static own s e = refl
back_static Dynamic own s e = absurd cc

pub insert-stands : (d : Defs) (s : TableState) (x : List ℕ) (values : Values) → IsSound d → d.format ≡ Static → fits d values ≡ true → length (spelling d values) ≡ d.slot_length → StandsFor d s x → StandsFor d (accepted d s (insert values)).state (overwritten (next_place s.space.holes s.space.end) (spelling d values) x)
unfolding accepted
insert-stands d s x values sound static fit sized k =
    let state = accepted-kept d s (insert values) sound fit k.state in
    let same = next_static d.format d.slot_length (length (spelling d values)) s.space static in
    let at = next_place s.space.holes s.space.end in
    subst (λ (t : Taken). StandsFor d (with_row at values t s.rows).state (overwritten at (spelling d values) x)) (sym same)
    (inserted_by d s.rows s.space.holes s.space.end x values sound static fit sized (static-of d s x static k) (subst (λ (t : Taken). IsState d (with_row at values t s.rows).state) same state))

pub append-stands : (d : Defs) (s : TableState) (x : List ℕ) (values : Values) → IsSound d → d.format ≡ Static → fits d values ≡ true → length (spelling d values) ≡ d.slot_length → StandsFor d s x → StandsFor d (accepted d s (insert_at_end values)).state (overwritten s.space.end (spelling d values) x)
unfolding accepted
append-stands d s x values sound static fit sized k =
    let state = accepted-kept d s (insert_at_end values) sound fit k.state in
    let same = behind_static d.format d.slot_length (length (spelling d values)) s.space static in
    let end = s.space.end in
    let t = slot_behind d.slot_length s.space.holes end in
    let q = static-of d s x static k in
    subst (λ (t : Taken). StandsFor d (with_row end values t s.rows).state (overwritten end (spelling d values) x)) (sym same)
    (row-written d end values t s.rows (record { at = end; size = d.slot_length }) x sound static fit sized refl refl
    (free-behind d s x sound q) (subst (λ (t : Taken). IsState d (with_row end values t s.rows).state) same state) (omega (arith, length-overwritten end (spelling d values) x, q.long, sized)) q.slots q.stand q.holes q.list)

-- ---- a row that is there

-- the slot of a row, and what else stands
pub record IsOwn (d : Defs) (s : TableState) (x : List ℕ) (at : ℕ) (r : StoredRow) : Type 0 where
  pub area : Area
  pub is : r.blocks ≡ area ∷ []
  pub there : area.at ≡ at
  pub size : area.size ≡ d.slot_length
  pub free : AreFree x area (rows_without at s.rows) s.space.holes
  pub inside : area.at + area.size ≤ s.space.end

own_by : (d : Defs) (s : TableState) (x : List ℕ) (at : ℕ) (r : StoredRow) (blocks : List Area) → IsSound d → d.format ≡ Static → IsStatic d s x → row_at at s.rows ≡ Some r → r.blocks ≡ blocks → first_or blocks None ≡ Some at → AreOneSlot d.slot_length blocks → IsOwn d s x at r
own_by d s x at r [] sound static k e same place one = absurd one
own_by d s x at r (a ∷ []) sound static k e same place one =
    let rows = rows_without at s.rows in
    let tile = subst (λ (own : List Area). Tile s.space.end (row_areas rows ++ (own ++ s.space.holes))) same (others-tile s.space.end at s.rows s.space.holes r e k.state.tile) in
    let slots = all-slots d.slot_length rows (a ∷ s.space.holes) (without-all (InSlots d.slot_length) at s.rows k.slots) (one, k.holes) in
    let bytes = slots_bytes d.slot_length (row_areas rows ++ (a ∷ s.space.holes)) (omega (arith, sound.slot_pointer static)) slots in
    record {
      area = a;
      is = same;
      there = cc;
      size = one;
      free = free-in s.space.end x a rows s.space.holes k.long bytes tile;
      inside = last_inside s.space.end (row_areas rows) a s.space.holes (tile-inside s.space.end (row_areas rows ++ (a ∷ s.space.holes)) bytes tile);
    }
own_by d s x at r (a ∷ b ∷ blocks) sound static k e same place one = absurd one

pub own-of : (d : Defs) (s : TableState) (x : List ℕ) (at : ℕ) (r : StoredRow) → IsSound d → d.format ≡ Static → IsStatic d s x → row_at at s.rows ≡ Some r → IsOwn d s x at r
own-of d s x at r sound static k e =
    let is = found-is (InSlots d.slot_length) at s.rows r e k.slots in
    own_by d s x at r r.blocks sound static k e refl (is.0.0 ∙ ap (λ (p : ℕ). Some p) is.1) is.0.1

pub update-stands : (d : Defs) (s : TableState) (x : List ℕ) (at : ℕ) (values : Values) (r : StoredRow) → IsSound d → d.format ≡ Static → fits d values ≡ true → length (spelling d values) ≡ d.slot_length → row_at at s.rows ≡ Some r → StandsFor d s x → StandsFor d (accepted d s (update at values)).state (overwritten at (spelling d values) x)
unfolding accepted
update-stands d s x at values r sound static fit sized e k =
    let state = subst (λ (o : Option StoredRow). IsState d (with_values d s at values o).state) e (accepted-kept d s (update at values) sound fit k.state) in
    let same = again_static d.format r.blocks (length (spelling d values)) s.space static in
    let q = static-of d s x static k in
    let own = own-of d s x at r sound static q e in
    let rows = rows_without at s.rows in
    let t : Taken = record { blocks = r.blocks; space = s.space } in
    let written = row-written d at values t rows own.area x sound static fit sized own.there own.size own.free
    (subst (λ (t : Taken). IsState d (with_row at values t rows).state) same state) (same_length s.space.end at (spelling d values) x q.long (omega (arith, own.inside, own.there, own.size, sized)))
    (without-all (InSlots d.slot_length) at s.rows q.slots) (without-all (StandsInSlot d x) at s.rows q.stand) q.holes q.list in
    subst (λ (o : Option StoredRow). StandsFor d (with_values d s at values o).state (overwritten at (spelling d values) x)) (sym e)
    (subst (λ (t : Taken). StandsFor d (with_row at values t rows).state (overwritten at (spelling d values) x)) (sym same) written)

pub delete-stands : (d : Defs) (s : TableState) (x : List ℕ) (at : ℕ) (r : StoredRow) → IsSound d → d.format ≡ Static → IsHead d s.space.end s.space.holes → row_at at s.rows ≡ Some r → StandsFor d s x → StandsFor d (accepted d s (delete at)).state (overwritten at (hole_bytes d.slot_length d.rec_ref (first_or s.space.holes None)) x)
unfolding accepted
delete-stands d s x at r sound static head e k =
    let state = subst (λ (o : Option StoredRow). IsState d (without_row d s at o).state) e (accepted-kept d s (delete at) sound tt k.state) in
    let same = back_static d.format r.blocks s.space static in
    let q = static-of d s x static k in
    let own = own-of d s x at r sound static q e in
    let rows = rows_without at s.rows in
    let bytes = hole_bytes d.slot_length d.rec_ref (first_or s.space.holes None) in
    let t : TableState = record { rows = rows; space = record { holes = r.blocks ++ s.space.holes; end = s.space.end } } in
    let holes : r.blocks ++ s.space.holes ≡ own.area ∷ s.space.holes = ap (λ (xs : List Area). xs ++ s.space.holes) own.is in
    let short = same_length s.space.end at bytes x q.long (omega (arith, own.inside, own.there, own.size, length-hole d.slot_length d.rec_ref (first_or s.space.holes None), sound.slot_pointer static)) in
    let written = hole-written d s t at rows own.area x sound static own.there own.size own.free head refl holes
    (subst (λ (p : Space). IsState d (record { rows = rows; space = p })) same state) short
    (without-all (InSlots d.slot_length) at s.rows q.slots) (without-all (StandsInSlot d x) at s.rows q.stand) q.holes q.list in
    subst (λ (o : Option StoredRow). StandsFor d (without_row d s at o).state (overwritten at bytes x)) (sym e)
    (subst (λ (p : Space). StandsFor d (record { rows = rows; space = p }) (overwritten at bytes x)) (sym same) written)
