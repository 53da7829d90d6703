-- What a change writes is a step of the state that the file stood for.
use Rattle.std.proofs.Common.{◌≡◌, ℕ, ◌+◌, ◌^◌, ◌≤◌, Bool, true, false, List, [], ◌∷◌, length, Option, None, Ok, Err, refl, sym, ap, subst, ◌∙◌, arith}
use Rattle.std.specs.Prelude.{unwrap_or}
use Rattle.myi_base.specs.Holding.{Holding, bytes_of, overwritten, Writes}
use Rattle.myi_defs.specs.declared.types.RowFormat.TheVariants.{Static}
use Rattle.myi_defs.specs.declared.types.Defs.{Defs}
use Rattle.myi_defs.specs.Addressable.{is_addressable}
use Rattle.myi_defs.specs.Sound.{IsSound}
use Rattle.myi_pack.specs.Packed.{Values}
use Rattle.myi_pack.specs.Spelling.{spelling, fits}
use Rattle.myi_dellist.specs.Areas.{Area}
use Rattle.myi_dellist.specs.Placing.{next_place}
use Rattle.myi_dellist.specs.Standing.{first_or}
use Rattle.myi_state.specs.declared.counts.Counts.{Counts}
use Rattle.myi_state.specs.State.{StoredRow, TableState, Taken, next_slot, slot_behind}
use Rattle.myi_state.specs.Changes.{Change, insert, insert_at_end, full, Changed, Step, with_row, accepted, refusal, lacks_row, first_of_two, if_long, step_by, step}
use Rattle.myi_state.specs.Numbers.{counts_of}
use Rattle.myi_state.specs.Standing.{StandsFor}
use Rattle.myi_state.proofs.CallerLemmas.{room-refused, none-refused, state-few}
use Rattle.myi_slots.specs.SlotFile.{SlotFile, IsFileOf, Steps, appended_counts}
use Rattle.myi_slots.proofs.StandLemmas.{few-slots}
use Rattle.myi_slots.proofs.ChangeLemmas.{next_static, behind_static, append-stands}
use Rattle.myi_slots.proofs.CountLemmas.{row-appended}

-- ---- any step

pub step-done : (d : Defs) (s : TableState) (c : Change) (end : ℕ) → lacks_row s c ≡ None → (accepted d s c).state.space.end ≡ end → is_addressable d end ≡ true → step d s c ≡ record { reply = Ok (accepted d s c).at; state = (accepted d s c).state }
step-done d s c end row e room = none-refused d s c row (ap (λ (n : ℕ). if_long (is_addressable d n)) e ∙ ap (λ (b : Bool). if_long b) room)

pub step-full : (d : Defs) (s : TableState) (c : Change) (end : ℕ) → lacks_row s c ≡ None → (accepted d s c).state.space.end ≡ end → is_addressable d end ≡ false → (step d s c).reply ≡ Err full
step-full d s c end row e room = room-refused d s c row full (ap (λ (n : ℕ). if_long (is_addressable d n)) e ∙ ap (λ (b : Bool). if_long b) room)

-- a file that was written
pub bytes-written : (name bytes : List ℕ) (at : ℕ) (m n : Holding) → Writes name at bytes m n → bytes_of name n ≡ overwritten at bytes (bytes_of name m)
bytes-written name bytes at m n w = ap (λ (o : Option (List ℕ)). unwrap_or o []) w.here

-- the object and the file behind a step
pub stepped : (f g : SlotFile) (c : Change) (s t : TableState) (at p : ℕ) (bytes : List ℕ) (new : Counts) (m n : Holding) → step f.defs s c ≡ record { reply = Ok p; state = t } → p ≡ at → g ≡ record f { counts = new } → new ≡ counts_of t → bytes_of f.name n ≡ bytes → StandsFor f.defs t bytes → ((step f.defs s c).reply ≡ Ok at) × IsFileOf g (step f.defs s c).state n
stepped f g c s t at p bytes new m n done here object numbers held stands =
    (ap (λ (q : Step). q.reply) done ∙ ap (λ (k : ℕ). Ok k) here, subst (λ (q : Step). IsFileOf g q.state n) (sym done) (subst (λ (h : SlotFile). IsFileOf h t n) (sym object) (record { counts = numbers; stands = subst (λ (x : List ℕ). StandsFor f.defs t x) (sym held) stands })))

-- the end that the object knows is that of the state
pub end-of : (f : SlotFile) (s : TableState) (m : Holding) → IsFileOf f s m → f.counts.length ≡ s.space.end
unfolding counts_of
end-of f s m k = ap (λ (c : Counts). c.length) k.counts

pub head-of : (f : SlotFile) (s : TableState) (m : Holding) → IsFileOf f s m → f.counts.dellink ≡ first_or s.space.holes None
unfolding counts_of
head-of f s m k = ap (λ (c : Counts). c.dellink) k.counts

-- ---- a row behind the end

appended_state : (d : Defs) (s : TableState) (values : Values) → d.format ≡ Static → accepted d s (insert_at_end values) ≡ with_row s.space.end values (slot_behind d.slot_length s.space.holes s.space.end) s.rows
unfolding accepted
appended_state d s values static = ap (λ (t : Taken). with_row s.space.end values t s.rows) (behind_static d.format d.slot_length (length (spelling d values)) s.space static)

pub append-steps : (f g : SlotFile) (values : Values) (at : ℕ) (bytes : List ℕ) (m n : Holding) → IsSound f.defs → f.defs.format ≡ Static → fits f.defs values ≡ true → length (spelling f.defs values) ≡ f.defs.slot_length → bytes ≡ spelling f.defs values → at ≡ f.counts.length → is_addressable f.defs (f.counts.length + length bytes) ≡ true → Writes f.name f.counts.length bytes m n → g ≡ record f { counts = appended_counts (f.counts.length + length bytes) f.counts } → Steps (insert_at_end values) f g at m n
append-steps f g values at bytes m n sound static fit sized packed here room written object s k =
    let d = f.defs in
    let x = bytes_of f.name m in
    let done = appended_state d s values static in
    let long = end-of f s m k in
    let size : length bytes ≡ d.slot_length = ap (λ (y : List ℕ). length y) packed ∙ sized in
    let end : (accepted d s (insert_at_end values)).state.space.end ≡ f.counts.length + length bytes = ap (λ (q : Changed). q.state.space.end) done ∙ omega (arith, long, size) in
    let t = (accepted d s (insert_at_end values)).state in
    let stands = append-stands d s x values sound static fit sized k.stands in
    let few = state-few d t sound stands.state in
    let short : t.space.end ≤ 2 ^ 40 = omega (arith, (few-slots d (f.counts.length + length bytes) static room).0, end) in
    let r : StoredRow = record { at = s.space.end; values = values; blocks = record { at = s.space.end; size = d.slot_length } ∷ [] } in
    let numbers = row-appended s t r d.slot_length few short (ap (λ (q : Changed). q.state.rows) done) refl (ap (λ (q : Changed). q.state.space.holes) done) (ap (λ (q : Changed). q.state.space.end) done) in
    let held : bytes_of f.name n ≡ overwritten s.space.end (spelling d values) x = bytes-written f.name bytes f.counts.length m n written ∙ ap (λ (p : ℕ). overwritten p bytes x) long ∙ ap (λ (y : List ℕ). overwritten s.space.end y x) packed in
    let new : appended_counts (f.counts.length + length bytes) f.counts ≡ counts_of t = ap (λ (c : Counts). appended_counts (f.counts.length + length bytes) c) k.counts ∙ ap (λ (e : ℕ). appended_counts e (counts_of s)) (omega (arith, long, size)) ∙ sym numbers in
    stepped f g (insert_at_end values) s t at (accepted d s (insert_at_end values)).at (overwritten s.space.end (spelling d values) x) (appended_counts (f.counts.length + length bytes) f.counts) m n
    (step-done d s (insert_at_end values) (f.counts.length + length bytes) refl end room) (ap (λ (q : Changed). q.at) done ∙ sym long ∙ sym here) object new held stands

pub append-full : (f : SlotFile) (values : Values) (bytes : List ℕ) (m : Holding) → f.defs.format ≡ Static → length (spelling f.defs values) ≡ f.defs.slot_length → bytes ≡ spelling f.defs values → is_addressable f.defs (f.counts.length + length bytes) ≡ false → (s : TableState) → IsFileOf f s m → (step f.defs s (insert_at_end values)).reply ≡ Err full
append-full f values bytes m static sized packed room s k =
    let d = f.defs in
    let long = end-of f s m k in
    let size : length bytes ≡ d.slot_length = ap (λ (y : List ℕ). length y) packed ∙ sized in
    step-full d s (insert_at_end values) (f.counts.length + length bytes) refl (ap (λ (q : Changed). q.state.space.end) (appended_state d s values static) ∙ omega (arith, long, size)) room

-- ---- an insert where nothing is deleted

no_holes : (holes : List Area) → first_or holes None ≡ None → holes ≡ []
no_holes [] e = refl
no_holes (h ∷ holes) e = absurd cc

same_by : (f size end len at : ℕ) (holes : List Area) (values : Values) (rows : List StoredRow) → holes ≡ [] → with_row (next_place holes end) values (next_slot size holes end) rows ≡ with_row end values (slot_behind size holes end) rows
same_by f size end len at [] values rows e = refl
same_by f size end len at (h ∷ holes) values rows e = absurd cc

pub inserted_state : (d : Defs) (s : TableState) (values : Values) → d.format ≡ Static → accepted d s (insert values) ≡ with_row (next_place s.space.holes s.space.end) values (next_slot d.slot_length s.space.holes s.space.end) s.rows
unfolding accepted
inserted_state d s values static = ap (λ (t : Taken). with_row (next_place s.space.holes s.space.end) values t s.rows) (next_static d.format d.slot_length (length (spelling d values)) s.space static)

same_step : (d : Defs) (s : TableState) (values : Values) → d.format ≡ Static → s.space.holes ≡ [] → step d s (insert_at_end values) ≡ step d s (insert values)
unfolding step refusal
same_step d s values static none =
    let same : accepted d s (insert_at_end values) ≡ accepted d s (insert values) = appended_state d s values static ∙ sym (same_by 0 d.slot_length s.space.end 0 0 s.space.holes values s.rows none) ∙ sym (inserted_state d s values static) in
    ap (λ (q : Changed). step_by s q (first_of_two None (if_long (is_addressable d q.state.space.end)))) same

pub insert-appends : (f g : SlotFile) (values : Values) (at : ℕ) (m n : Holding) → f.defs.format ≡ Static → f.counts.dellink ≡ None → Steps (insert_at_end values) f g at m n → Steps (insert values) f g at m n
insert-appends f g values at m n static none steps s k =
    let same = same_step f.defs s values static (no_holes s.space.holes (sym (head-of f s m k) ∙ none)) in
    subst (λ (t : Step). (t.reply ≡ Ok at) × IsFileOf g t.state n) same (steps s k)

pub insert-full : (f : SlotFile) (values : Values) (m : Holding) → f.defs.format ≡ Static → f.counts.dellink ≡ None → ((s : TableState) → IsFileOf f s m → (step f.defs s (insert_at_end values)).reply ≡ Err full) → (s : TableState) → IsFileOf f s m → (step f.defs s (insert values)).reply ≡ Err full
insert-full f values m static none says s k =
    let same = same_step f.defs s values static (no_holes s.space.holes (sym (head-of f s m k) ∙ none)) in
    subst (λ (t : Step). t.reply ≡ Err full) same (says s k)
