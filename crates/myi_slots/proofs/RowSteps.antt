-- Rows that fill a deleted slot, that change in their slot, and that go.
use Rattle.std.proofs.Common.{◌≡◌, ℕ, ◌-◌, ◌/◌, ◌^◌, ◌<◌, ◌≤◌, inl, inr, Bool, true, false, List, [], ◌∷◌, ◌++◌, length, Option, Some, None, Ok, Err, refl, sym, ap, subst, ◌∙◌, arith}
use Rattle.std.specs.Prelude.{is_some, ◌&&◌, if◌then◌else◌}
use Rattle.std.specs.List.{AllByRecursion}
use Rattle.myi_pack.specs.Unpacking.{row_of}
use Rattle.myi_data.specs.Readable.{packs}
use Rattle.myi_state.specs.Standing.{slot_bytes}
use Rattle.myi_slots.specs.declared.fault.DataFault.TheVariants as fault
use Rattle.myi_base.specs.Holding.{Holding, bytes_of, overwritten, Writes}
use Rattle.myi_defs.specs.declared.types.RowFormat.{RowFormat}
use Rattle.myi_defs.specs.declared.types.RowFormat.TheVariants.{Static, Dynamic}
use Rattle.myi_defs.specs.declared.types.Defs.{Defs}
use Rattle.myi_defs.specs.Addressable.{is_addressable}
use Rattle.myi_defs.specs.Sound.{IsSound}
use Rattle.myi_pack.specs.Packed.{Values, IsRow}
use Rattle.myi_pack.specs.Spelling.{spelling, fits}
use Rattle.myi_pack.proofs.CallerLemmas.{row-spelled}
use Rattle.myi_dellist.specs.Areas.{Area}
use Rattle.myi_dellist.specs.Placing.{Space, next_place}
use Rattle.myi_dellist.specs.Standing.{first_or}
use Rattle.myi_state.specs.declared.counts.Counts.{Counts}
use Rattle.myi_state.specs.State.{StoredRow, TableState, row_areas, put_row, row_at, rows_without, Taken, next_slot}
use Rattle.myi_state.specs.Changes.{Change, insert, delete, update, no_row, full, Changed, with_row, without_row, with_values, accepted, if_absent, lacks_row, step}
use Rattle.myi_state.specs.Sound.{IsSlot}
use Rattle.myi_state.specs.Numbers.{total_bytes, counts_of}
use Rattle.myi_state.proofs.CallerLemmas.{row-refused, slot-some, state-few, same-counts, put-rows, put-areas, gone-rows, gone-areas}
use Rattle.myi_slots.specs.SlotBytes.{hole_in, hole_bytes, is_row, row_there, is_slot, slot_number}
use Rattle.myi_slots.specs.SlotFile.{SlotFile, IsFileOf, Steps, Fills, LacksHole, IsLink, filled_counts, freed_counts, IsFound, IsReply}
use Rattle.myi_slots.proofs.StandLemmas.{static-of, few-slots, number-fits, head-is}
use Rattle.myi_slots.proofs.ChangeLemmas.{again_static, back_static, insert-stands, update-stands, delete-stands, own-of}
use Rattle.myi_slots.proofs.FoundLemmas.{IsThere, row-there, no-row-there, head-there, slot-is, holes-known}
use Rattle.myi_slots.proofs.CountLemmas.{row-filled, row-freed}
use Rattle.myi_slots.proofs.StepLemmas.{step-done, step-full, bytes-written, stepped, end-of, head-of, inserted_state}

-- the spelling of a static row is as long as a slot
pub spelled-long : (d : Defs) (values : Values) → IsSound d → d.format ≡ Static → fits d values ≡ true → length (spelling d values) ≡ d.slot_length
spelled-long d values sound static fit = by_format d.format static (row-spelled d values sound fit)
  where
    by_format : (f : RowFormat) → f ≡ Static → IsRow f d values (spelling d values) → length (spelling d values) ≡ d.slot_length
    by_format Static e h = h.slot
    by_format Dynamic e h = absurd cc

-- ---- the first deleted slot

pub record HasFirst (holes : List Area) (at : ℕ) : Type 0 where
  pub first : Area
  pub more : List Area
  pub is : holes ≡ first ∷ more
  pub there : first.at ≡ at

pub first-of : (holes : List Area) (at : ℕ) → first_or holes None ≡ Some at → HasFirst holes at
first-of [] at e = absurd cc
first-of (h ∷ holes) at e = record { first = h; more = holes; is = refl; there = cc }

first_found : (f : SlotFile) (s : TableState) (m : Holding) (at : ℕ) → IsSound f.defs → f.defs.format ≡ Static → IsFileOf f s m → (h : HasFirst s.space.holes at) → hole_in f.defs.slot_length f.defs.rec_ref (bytes_of f.name m) at ≡ Some (first_or h.more None)
first_found f s m at sound static k h =
    ap (λ (p : ℕ). hole_in f.defs.slot_length f.defs.rec_ref (bytes_of f.name m) p) (sym h.there)
    ∙ head-there f.defs s (bytes_of f.name m) h.first h.more sound static (static-of f.defs s (bytes_of f.name m) static k.stands) h.is

pub fill-damaged : (f : SlotFile) (at : ℕ) (m : Holding) → IsSound f.defs → f.defs.format ≡ Static → f.counts.dellink ≡ Some at → LacksHole f at m → (s : TableState) → IsFileOf f s m → ⊥
fill-damaged f at m sound static head lacks s k =
    let h = first-of s.space.holes at (sym (head-of f s m k) ∙ head) in
    never (sym (first_found f s m at sound static k h) ∙ lacks)
  where
    never : {o : Option ℕ} → Some o ≡ None → ⊥
    never e = absurd cc

filled_end : (d : Defs) (s : TableState) (values : Values) (at : ℕ) → d.format ≡ Static → HasFirst s.space.holes at → (accepted d s (insert values)).state.space.end ≡ s.space.end
filled_end d s values at static h =
    ap (λ (q : Changed). q.state.space.end) (inserted_state d s values static) ∙ ap (λ (hs : List Area). (next_slot d.slot_length hs s.space.end).space.end) h.is

pub fill-full : (f : SlotFile) (values : Values) (at : ℕ) (m : Holding) → f.defs.format ≡ Static → f.counts.dellink ≡ Some at → is_addressable f.defs f.counts.length ≡ false → (s : TableState) → IsFileOf f s m → (step f.defs s (insert values)).reply ≡ Err full
fill-full f values at m static head room s k =
    let h = first-of s.space.holes at (sym (head-of f s m k) ∙ head) in
    step-full f.defs s (insert values) f.counts.length refl (filled_end f.defs s values at static h ∙ sym (end-of f s m k)) room

pub fill-steps : (f g : SlotFile) (values : Values) (at p : ℕ) (bytes : List ℕ) (m n : Holding) → IsSound f.defs → f.defs.format ≡ Static → fits f.defs values ≡ true → bytes ≡ spelling f.defs values → f.counts.dellink ≡ Some at → p ≡ at → is_addressable f.defs f.counts.length ≡ true → Writes f.name at bytes m n → Fills f g at m → Steps (insert values) f g p m n
fill-steps f g values at p bytes m n sound static fit packed head here room written fills s k =
    let d = f.defs in
    let x = bytes_of f.name m in
    let h = first-of s.space.holes at (sym (head-of f s m k) ∙ head) in
    let done : accepted d s (insert values) ≡ with_row (next_place (h.first ∷ h.more) s.space.end) values (next_slot d.slot_length (h.first ∷ h.more) s.space.end) s.rows = inserted_state d s values static ∙ ap (λ (hs : List Area). with_row (next_place hs s.space.end) values (next_slot d.slot_length hs s.space.end) s.rows) h.is in
    let t = (accepted d s (insert values)).state in
    let sized = spelled-long d values sound static fit in
    let place : next_place s.space.holes s.space.end ≡ at = ap (λ (hs : List Area). next_place hs s.space.end) h.is ∙ h.there in
    let stands = insert-stands d s x values sound static fit sized k.stands in
    let q = static-of d t _ static stands in
    let few = state-few d t sound q.state in
    let end = filled_end d s values at static h in
    let short : t.space.end ≤ 2 ^ 40 = omega (arith, (few-slots d f.counts.length static room).0, end, end-of f s m k) in
    let r : StoredRow = record { at = h.first.at; values = values; blocks = h.first ∷ [] } in
    let next : first_or h.more None ≡ fills.0 = some_is (sym (first_found f s m at sound static k h) ∙ fills.1) in
    let was = static-of d s x static k.stands in
    let size = (subst (λ (hs : List Area). AllByRecursion (IsSlot d.slot_length) hs) h.is was.holes).0 in
    let rest : t.space.holes ≡ h.more = ap (λ (q : Changed). q.state.space.holes) done in
    let numbers = row-filled s t r h.first d.slot_length fills.0 few short (ap (λ (q : Changed). q.state.rows) done) refl (h.is ∙ ap (λ (hs : List Area). h.first ∷ hs) (sym rest)) size (ap (λ (hs : List Area). first_or hs None) rest ∙ next) end in
    let held : bytes_of f.name n ≡ overwritten (next_place s.space.holes s.space.end) (spelling d values) x = bytes-written f.name bytes at m n written ∙ ap (λ (y : List ℕ). overwritten at y x) packed ∙ ap (λ (w : ℕ). overwritten w (spelling d values) x) (sym place) in
    let new : filled_counts d.slot_length fills.0 f.counts ≡ counts_of t = ap (λ (c : Counts). filled_counts d.slot_length fills.0 c) k.counts ∙ sym numbers in
    stepped f g (insert values) s t p (accepted d s (insert values)).at (overwritten (next_place s.space.holes s.space.end) (spelling d values) x) (filled_counts d.slot_length fills.0 f.counts) m n
    (step-done d s (insert values) f.counts.length refl (end ∙ sym (end-of f s m k)) room) (ap (λ (q : Changed). q.at) (inserted_state d s values static) ∙ place ∙ sym here) fills.2 new held stands
  where
    some_is : {a b : Option ℕ} → Some a ≡ Some b → a ≡ b
    some_is e = cc

-- ---- the row at a position

pub found-row : (f : SlotFile) (s : TableState) (m : Holding) (at : ℕ) → IsSound f.defs → f.defs.format ≡ Static → IsFileOf f s m → true ≡ is_row f.defs (bytes_of f.name m) at → (r : StoredRow) × (row_at at s.rows ≡ Some r)
found-row f s m at sound static k is = by_row (row_at at s.rows) refl
  where
    never : true ≡ false → ⊥
    never e = absurd cc

    by_row : (o : Option StoredRow) → row_at at s.rows ≡ o → (r : StoredRow) × (row_at at s.rows ≡ Some r)
    by_row (Some r) e = (r, e)
    by_row None e = absurd (never (is ∙ no-row-there f.defs s (bytes_of f.name m) at sound static (static-of f.defs s (bytes_of f.name m) static k.stands) e))

pub lost-row : (f : SlotFile) (s : TableState) (m : Holding) (at : ℕ) → IsSound f.defs → f.defs.format ≡ Static → IsFileOf f s m → false ≡ is_row f.defs (bytes_of f.name m) at → row_at at s.rows ≡ None
lost-row f s m at sound static k is = by_row (row_at at s.rows) refl
  where
    never : false ≡ true → ⊥
    never e = absurd cc

    by_row : (o : Option StoredRow) → row_at at s.rows ≡ o → o ≡ None
    by_row None e = refl
    by_row (Some r) e = absurd (never (is ∙ (row-there f.defs s (bytes_of f.name m) at r sound static (static-of f.defs s (bytes_of f.name m) static k.stands) e).is))

pub no-row-refused : (f : SlotFile) (c : Change) (m : Holding) (at : ℕ) → IsSound f.defs → f.defs.format ≡ Static → ((s : TableState) → lacks_row s c ≡ if_absent at (row_at at s.rows)) → false ≡ is_row f.defs (bytes_of f.name m) at → (s : TableState) → IsFileOf f s m → (step f.defs s c).reply ≡ Err (no_row at)
no-row-refused f c m at sound static lacks is s k = row-refused f.defs s c (no_row at) (lacks s ∙ ap (λ (o : Option StoredRow). if_absent at o) (lost-row f s m at sound static k is))

-- ---- other values

updated_state : (d : Defs) (s : TableState) (at : ℕ) (values : Values) (r : StoredRow) → d.format ≡ Static → row_at at s.rows ≡ Some r → accepted d s (update at values) ≡ with_row at values (record { blocks = r.blocks; space = s.space }) (rows_without at s.rows)
unfolding accepted
updated_state d s at values r static e =
    ap (λ (o : Option StoredRow). with_values d s at values o) e
    ∙ ap (λ (t : Taken). with_row at values t (rows_without at s.rows)) (again_static d.format r.blocks (length (spelling d values)) s.space static)

pub update-full : (f : SlotFile) (values : Values) (at : ℕ) (m : Holding) → IsSound f.defs → f.defs.format ≡ Static → true ≡ is_row f.defs (bytes_of f.name m) at → is_addressable f.defs f.counts.length ≡ false → (s : TableState) → IsFileOf f s m → (step f.defs s (update at values)).reply ≡ Err full
update-full f values at m sound static is room s k =
    let r = found-row f s m at sound static k is in
    step-full f.defs s (update at values) f.counts.length (ap (λ (o : Option StoredRow). if_absent at o) r.1) (ap (λ (q : Changed). q.state.space.end) (updated_state f.defs s at values r.0 static r.1) ∙ sym (end-of f s m k)) room

same_numbers : (s t : TableState) (at : ℕ) (values : Values) (r : StoredRow) → row_at at s.rows ≡ Some r → t.rows ≡ put_row (record { at = at; values = values; blocks = r.blocks }) (rows_without at s.rows) → t.space ≡ s.space → counts_of t ≡ counts_of s
unfolding counts_of
same_numbers s t at values r e rows space =
    let q : StoredRow = record { at = at; values = values; blocks = r.blocks } in
    let others = rows_without at s.rows in
    same-counts _ _ _ _ _ _ _ _ _ _ _ _
    (ap (λ (w : List StoredRow). length w) rows ∙ omega (arith, put-rows q others, gone-rows at s.rows r e))
    (ap (λ (w : Space). length w.holes) space)
    (ap (λ (w : List StoredRow). length (row_areas w)) rows ∙ omega (arith, put-areas q others, gone-areas at s.rows r e))
    (ap (λ (w : Space). total_bytes w.holes) space)
    (ap (λ (w : Space). w.end) space)
    (ap (λ (w : Space). first_or w.holes None) space)

pub update-steps : (f g : SlotFile) (values : Values) (at : ℕ) (bytes : List ℕ) (m n : Holding) → IsSound f.defs → f.defs.format ≡ Static → fits f.defs values ≡ true → bytes ≡ spelling f.defs values → true ≡ is_row f.defs (bytes_of f.name m) at → is_addressable f.defs f.counts.length ≡ true → Writes f.name at bytes m n → g ≡ f → Steps (update at values) f g at m n
update-steps f g values at bytes m n sound static fit packed is room written same s k =
    let d = f.defs in
    let x = bytes_of f.name m in
    let r = found-row f s m at sound static k is in
    let done = updated_state d s at values r.0 static r.1 in
    let t = (accepted d s (update at values)).state in
    let stands = update-stands d s x at values r.0 sound static fit (spelled-long d values sound static fit) r.1 k.stands in
    let held : bytes_of f.name n ≡ overwritten at (spelling d values) x = bytes-written f.name bytes at m n written ∙ ap (λ (y : List ℕ). overwritten at y x) packed in
    let numbers = same_numbers s t at values r.0 r.1 (ap (λ (q : Changed). q.state.rows) done) (ap (λ (q : Changed). q.state.space) done) in
    stepped f g (update at values) s t at (accepted d s (update at values)).at (overwritten at (spelling d values) x) f.counts m n
    (step-done d s (update at values) f.counts.length (ap (λ (o : Option StoredRow). if_absent at o) r.1) (ap (λ (q : Changed). q.state.space.end) done ∙ sym (end-of f s m k)) room) (ap (λ (q : Changed). q.at) done) same (k.counts ∙ sym numbers) held stands

-- ---- a row goes

deleted_state : (d : Defs) (s : TableState) (at : ℕ) (r : StoredRow) → d.format ≡ Static → row_at at s.rows ≡ Some r → accepted d s (delete at) ≡ record { at = at; state = record { rows = rows_without at s.rows; space = record { holes = r.blocks ++ s.space.holes; end = s.space.end } } }
unfolding accepted
deleted_state d s at r static e =
    ap (λ (o : Option StoredRow). without_row d s at o) e
    ∙ ap (λ (p : Space). to_changed at (rows_without at s.rows) p) (back_static d.format r.blocks s.space static)
  where
    to_changed : ℕ → List StoredRow → Space → Changed
    to_changed at rows p = record { at = at; state = record { rows = rows; space = p } }

pub delete-full : (f : SlotFile) (at : ℕ) (m : Holding) → IsSound f.defs → f.defs.format ≡ Static → true ≡ is_row f.defs (bytes_of f.name m) at → is_addressable f.defs f.counts.length ≡ false → (s : TableState) → IsFileOf f s m → (step f.defs s (delete at)).reply ≡ Err full
delete-full f at m sound static is room s k =
    let r = found-row f s m at sound static k is in
    step-full f.defs s (delete at) f.counts.length (ap (λ (o : Option StoredRow). if_absent at o) r.1) (ap (λ (q : Changed). q.state.space.end) (deleted_state f.defs s at r.0 static r.1) ∙ sym (end-of f s m k)) room

-- the number of a link of the file
pub link-fits : (d : Defs) (end : ℕ) (link : Option ℕ) → IsSound d → d.format ≡ Static → is_addressable d end ≡ true → IsLink d.slot_length end link → slot_number d.slot_length d.rec_ref link < 256 ^ d.rec_ref
link-fits d end None sound static room is = number-fits d end None 0 (slot-some d sound static) (few-slots d end static room).1 (inl refl)
link-fits d end (Some p) sound static room is = number-fits d end (Some p) p (slot-some d sound static) (few-slots d end static room).1 (inr (refl, (slot-is d.slot_length end p is).1))

-- a state's first deleted slot is one of the file
pub link-known : (f : SlotFile) (m : Holding) (p : ℕ) → IsSound f.defs → f.defs.format ≡ Static → f.counts.dellink ≡ Some p → is_slot f.defs.slot_length f.counts.length p ≡ false → (s : TableState) → IsFileOf f s m → ⊥
link-known f m p sound static head lacks s k =
    let h = first-of s.space.holes p (sym (head-of f s m k) ∙ head) in
    let known = holes-known f.defs s (bytes_of f.name m) sound static (static-of f.defs s (bytes_of f.name m) static k.stands) in
    let slot = (subst (λ (hs : List Area). AllByRecursion (λ (a : Area). is_slot f.defs.slot_length s.space.end a.at ≡ true) hs) h.is known.slots).0 in
    never (sym lacks ∙ ap (λ (e : ℕ). is_slot f.defs.slot_length e p) (end-of f s m k) ∙ ap (λ (q : ℕ). is_slot f.defs.slot_length s.space.end q) (sym h.there) ∙ slot)
  where
    never : false ≡ true → ⊥
    never e = absurd cc

pub delete-steps : (f g : SlotFile) (at : ℕ) (m n : Holding) → IsSound f.defs → f.defs.format ≡ Static → true ≡ is_row f.defs (bytes_of f.name m) at → is_addressable f.defs f.counts.length ≡ true → Writes f.name at (hole_bytes f.defs.slot_length f.defs.rec_ref f.counts.dellink) m n → g ≡ record f { counts = freed_counts f.defs.slot_length at f.counts } → Steps (delete at) f g at m n
delete-steps f g at m n sound static is room written object s k =
    let d = f.defs in
    let x = bytes_of f.name m in
    let r = found-row f s m at sound static k is in
    let done = deleted_state d s at r.0 static r.1 in
    let t = (accepted d s (delete at)).state in
    let was = static-of d s x static k.stands in
    let known = holes-known d s x sound static was in
    let few = few-slots d f.counts.length static room in
    let long = end-of f s m k in
    let small = subst (λ (e : ℕ). e / d.slot_length < 256 ^ d.rec_ref - 1) long few.1 in
    let head = head-is d s.space.end s.space.holes (slot-some d sound static) small known.multiple was.holes known.inside in
    let stands = delete-stands d s x at r.0 sound static head r.1 k.stands in
    let own = own-of d s x at r.0 sound static was r.1 in
    let q = static-of d t _ static stands in
    let end : t.space.end ≡ s.space.end = ap (λ (c : Changed). c.state.space.end) done in
    let short : t.space.end ≤ 2 ^ 40 = omega (arith, few.0, end, long) in
    let holes : t.space.holes ≡ own.area ∷ s.space.holes = ap (λ (c : Changed). c.state.space.holes) done ∙ ap (λ (bs : List Area). bs ++ s.space.holes) own.is in
    let one : length r.0.blocks ≡ 1 = ap (λ (bs : List Area). length bs) own.is in
    let numbers = row-freed s t r.0 own.area at d.slot_length (state-few d t sound q.state) short r.1 (ap (λ (c : Changed). c.state.rows) done) one holes own.there own.size end in
    let held : bytes_of f.name n ≡ overwritten at (hole_bytes d.slot_length d.rec_ref (first_or s.space.holes None)) x = bytes-written f.name (hole_bytes d.slot_length d.rec_ref f.counts.dellink) at m n written ∙ ap (λ (o : Option ℕ). overwritten at (hole_bytes d.slot_length d.rec_ref o) x) (head-of f s m k) in
    stepped f g (delete at) s t at (accepted d s (delete at)).at (overwritten at (hole_bytes d.slot_length d.rec_ref (first_or s.space.holes None)) x) (freed_counts d.slot_length at f.counts) m n
    (step-done d s (delete at) f.counts.length (ap (λ (o : Option StoredRow). if_absent at o) r.1) (end ∙ sym long) room) (ap (λ (c : Changed). c.at) done) object (ap (λ (c : Counts). freed_counts d.slot_length at c) k.counts ∙ sym numbers) held stands

-- ---- a row is read

row_is : (d : Defs) (x : List ℕ) (at : ℕ) → is_some (row_there d x at) ≡ is_row d x at
unfolding row_there is_row
row_is d x at = by_test (is_slot d.slot_length (length x) at)
  where
    by_test : (t : Bool) → is_some (if t then row_of d (slot_bytes d x at) else None) ≡ (t && packs d (slot_bytes d x at))
    by_test true = refl
    by_test false = refl

there_is : (d : Defs) (x : List ℕ) (at : ℕ) (r : StoredRow) → IsThere d x at r → row_there d x at ≡ Some r.values
unfolding row_there
there_is d x at r h = let slot = h.slot in rw slot h.packs_it

-- what is found is the row of the state, or none where it has none
pub reads-row : (f : SlotFile) (at : ℕ) (m : Holding) (o : Option Values) → IsSound f.defs → f.defs.format ≡ Static → o ≡ row_there f.defs (bytes_of f.name m) at → (s : TableState) → IsFileOf f s m → IsFound at (row_at at s.rows) o
reads-row f at m o sound static e s k = by_row (row_at at s.rows) refl
  where
    gone : (o : Option Values) → is_some o ≡ false → IsFound at None o
    gone None n = tt
    gone (Some v) n = absurd cc

    by_row : (q : Option StoredRow) → row_at at s.rows ≡ q → IsFound at q o
    by_row None n = gone o (ap (λ (w : Option Values). is_some w) e ∙ row_is f.defs (bytes_of f.name m) at ∙ no-row-there f.defs s (bytes_of f.name m) at sound static (static-of f.defs s (bytes_of f.name m) static k.stands) n)
    by_row (Some r) n = subst (λ (w : Option Values). IsFound at (Some r) w) (sym (e ∙ there_is f.defs (bytes_of f.name m) at r (row-there f.defs s (bytes_of f.name m) at r sound static (static-of f.defs s (bytes_of f.name m) static k.stands) n))) refl

-- ---- an answer of it

pub answer-some : (at : ℕ) (q : Option StoredRow) (v : Values) → IsFound at q (Some v) → IsReply at q (Ok v)
answer-some at None v h = absurd h
answer-some at (Some r) v h = h

pub answer-none : (at : ℕ) (q : Option StoredRow) → IsFound at q None → IsReply at q (Err (fault.NoRow at))
answer-none at None h = refl
answer-none at (Some r) h = absurd h

-- where none is found, none stands
pub row-missing : (d : Defs) (x : List ℕ) (at : ℕ) → None ≡ row_there d x at → is_row d x at ≡ false
row-missing d x at none = sym (row_is d x at) ∙ ap (λ (o : Option Values). is_some o) (sym none)

-- where one is found, one stands
pub row-found : (d : Defs) (x : List ℕ) (at : ℕ) (values : Values) → Some values ≡ row_there d x at → is_row d x at ≡ true
row-found d x at values found = sym (row_is d x at) ∙ ap (λ (o : Option Values). is_some o) (sym found)

-- where a row stands, none is not found
pub row-not-lost : (d : Defs) (x : List ℕ) (at : ℕ) → None ≡ row_there d x at → is_row d x at ≡ true → ⊥
row-not-lost d x at none is = never (ap (λ (o : Option Values). is_some o) none ∙ row_is d x at ∙ is)
  where
    never : false ≡ true → ⊥
    never e = absurd cc

pub nothing-told : (old : Option Holding) → ((m : Holding) → old ≡ Some m → ⊥) → old ≡ None
nothing-told None h = refl
nothing-told (Some m) h = absurd (h m refl)
