-- What stands at a place of a static data file that stands for a state.
use Rattle.std.proofs.Common.{◌≡◌, ℕ, zero, suc, ◌+◌, ◌-◌, ◌*◌, ◌/◌, ◌%◌, ◌^◌, ◌<◌, ◌≤◌, ◌⊎◌, inl, inr, Bool, true, false, List, [], ◌∷◌, ◌++◌, length, take, drop, Option, Some, None, refl, sym, ap, subst, ◌∙◌, arith}
use Rattle.std.specs.Prelude.{◌==◌, nat_le, nat_lt, ◌&&◌, slice_index, is_some, if◌then◌else◌}
use Rattle.std.specs.List.{AllByRecursion}
use Rattle.std.proofs.lemmas.Bool.{leb-true, le-leb, lt-ltb, eqb-true, eqb-false, cases_lt}
use Rattle.std.proofs.lemmas.List.{drop-drop}
use Rattle.std.proofs.lemmas.Nat.{div-mul-add}
use Rattle.std.proofs.Math.Nat.{lt-div-mul-add, div-lt_iff_lt-mul, mod-add-div'}
use Rattle.myi_base.specs.Numbers.{num, num_at}
use Rattle.myi_defs.specs.declared.types.RowFormat.TheVariants.{Static}
use Rattle.myi_defs.specs.declared.types.Defs.{Defs}
use Rattle.myi_defs.specs.Sound.{IsSound}
use Rattle.myi_pack.specs.Packed.{Values}
use Rattle.myi_pack.specs.Unpacking.{row_of}
use Rattle.myi_dellist.specs.Areas.{Area, Holds, AreInside}
use Rattle.myi_dellist.specs.Standing.{first_or}
use Rattle.myi_dellist.proofs.CallerLemmas.{tile-holds, tile-inside}
use Rattle.myi_data.specs.Readable.{packs}
use Rattle.myi_state.specs.State.{StoredRow, TableState, row_areas, row_at}
use Rattle.myi_state.specs.Sound.{IsSlot, AreOneSlot}
use Rattle.myi_state.specs.Standing.{slot_bytes, StandsInSlot, named_slot, ListSlots}
use Rattle.myi_state.proofs.CallerLemmas.{found-is, state-bytes, static-begins}
use Rattle.myi_slots.specs.SlotBytes.{is_slot, is_row, link_by, link_of, link_in, hole_in}
use Rattle.myi_slots.proofs.SlotLemmas.{InSlots}
use Rattle.myi_slots.proofs.StandLemmas.{IsStatic, AreMultiples, multiples}
use Rattle.myi_slots.proofs.ChangeLemmas.{own-of}

both_true : (a b : Bool) → a ≡ true → b ≡ true → (a && b) ≡ true
both_true true b e f = f
both_true false b e f = e

halves : (a b : Bool) → (a && b) ≡ true → (a ≡ true) × (b ≡ true)
halves true b e = (refl, e)
halves false b e = absurd cc

zero_test : (n : ℕ) → n ≡ 0 → (n == 0) ≡ true
zero_test n e = rw e refl

pub slot-true : (size end at : ℕ) → at % size ≡ 0 → at + size ≤ end → is_slot size end at ≡ true
slot-true size end at m le = both_true (at % size == 0) (nat_le (at + size) end) (zero_test (at % size) m) (le-leb _ _ le)

pub slot-is : (size end at : ℕ) → is_slot size end at ≡ true → (at % size ≡ 0) × (at + size ≤ end)
slot-is size end at e = let t = halves (at % size == 0) (nat_le (at + size) end) e in (eqb-true _ _ t.0, leb-true _ _ t.1)

-- two multiples of a size that are less than it apart
same_multiple : (size a p : ℕ) → 0 < size → a % size ≡ 0 → p % size ≡ 0 → a ≤ p → p < a + size → a ≡ p
same_multiple size a p some m n le lt =
    let wa : a / size * size ≡ a = omega (arith, mod-add-div' a size, m) in
    let wp : p / size * size ≡ p = omega (arith, mod-add-div' p size, n) in
    let up : p / size < a / size + 1 = (div-lt_iff_lt-mul some).1 (omega (arith, lt, wa, next (a / size) size)) in
    let down : a / size ≤ p / size = low (cases (p / size) (a / size)) wa in
    let same : a / size ≡ p / size = omega (arith, up, down) in
    sym wa ∙ ap (λ (k : ℕ). k * size) same ∙ wp
  where
    next : (k n : ℕ) → (k + 1) * n ≡ k * n + n
    next k n = grind arith

    cases : (i j : ℕ) → (i < j) ⊎ (j ≤ i)
    cases i j = cases_lt i j

    low : (p / size < a / size) ⊎ (a / size ≤ p / size) → a / size * size ≡ a → a / size ≤ p / size
    low (inr le) w = le
    low (inl less) w = absurd (omega (arith, (div-lt_iff_lt-mul some).0 less, w, le))

multiples_left : (size : ℕ) (xs ys : List Area) → AreMultiples size (xs ++ ys) → AreMultiples size xs × AreMultiples size ys
multiples_left size [] ys all = (tt, all)
multiples_left size (x ∷ xs) ys all = let t = multiples_left size xs ys all.1 in ((all.0, t.0), t.1)

abbrev OnMultiples : ℕ → StoredRow → Type 0
OnMultiples size r = AreMultiples size r.blocks

row_multiples : (size : ℕ) (rows : List StoredRow) → AreMultiples size (row_areas rows) → AllByRecursion (OnMultiples size) rows
row_multiples size [] all = tt
row_multiples size (r ∷ rows) all = let t = multiples_left size r.blocks (row_areas rows) all in (t.0, row_multiples size rows t.1)

-- ---- a row

pub record IsThere (d : Defs) (x : List ℕ) (at : ℕ) (r : StoredRow) : Type 0 where
  pub is : is_row d x at ≡ true
  pub slot : is_slot d.slot_length (length x) at ≡ true
  pub packs_it : row_of d (slot_bytes d x at) ≡ Some r.values

pub row-there : (d : Defs) (s : TableState) (x : List ℕ) (at : ℕ) (r : StoredRow) → IsSound d → d.format ≡ Static → IsStatic d s x → row_at at s.rows ≡ Some r → IsThere d x at r
unfolding is_row
row-there d s x at r sound static k e =
    let own = own-of d s x at r sound static k e in
    let size = d.slot_length in
    let all = (multiples_left size (row_areas s.rows) s.space.holes (multiples d s x sound k)).0 in
    let m = (found-is (OnMultiples size) at s.rows r e (row_multiples size s.rows all)).0 in
    let multiple : own.area.at % size ≡ 0 = (subst (λ (xs : List Area). AreMultiples size xs) own.is m).0 in
    let stand = found-is (StandsInSlot d x) at s.rows r e k.stand in
    let value : row_of d (slot_bytes d x at) ≡ Some r.values = ap (λ (p : ℕ). row_of d (slot_bytes d x p)) (sym stand.1) ∙ stand.0 in
    let slot = slot-true size (length x) at (ap (λ (p : ℕ). p % size) (sym own.there) ∙ multiple) (omega (arith, own.inside, own.there, own.size, k.long)) in
    record { is = both_true (is_slot size (length x) at) (packs d (slot_bytes d x at)) slot (ap (λ (o : Option Values). is_some o) value); slot = slot; packs_it = value }

one_none : (size at : ℕ) (r : StoredRow) (blocks more : List Area) → 0 < size → at % size ≡ 0 → AreOneSlot size blocks → first_or blocks None ≡ Some r.at → AreMultiples size blocks → (r.at == at) ≡ false → Holds at (blocks ++ more) → Holds at more
one_none size at r [] more some m one place all ne h = h
one_none size at r (a ∷ []) more some m one place all ne (inl h) =
    let here : a.at ≡ r.at = cc in
    let same = same_multiple size a.at at some all.0 m h.0 (omega (arith, h.1, one)) in
    absurd (eqb-false _ _ ne (sym here ∙ same))
one_none size at r (a ∷ []) more some m one place all ne (inr h) = h
one_none size at r (a ∷ b ∷ blocks) more some m one place all ne h = absurd one

rows_none : (size at : ℕ) (rows : List StoredRow) (holes : List Area) → 0 < size → at % size ≡ 0 → AllByRecursion (InSlots size) rows → AllByRecursion (OnMultiples size) rows → row_at at rows ≡ None → Holds at (row_areas rows ++ holes) → Holds at holes
rows_none size at [] holes some m slots all none h = h
rows_none size at (r ∷ rows) holes some m slots all none h =
    by_test (r.at == at) refl none (subst (λ (xs : List Area). Holds at xs) (sym (assoc r.blocks (row_areas rows) holes)) h) (rows_none size at rows holes some m slots.1 all.1)
  where
    assoc : (xs ys zs : List Area) → xs ++ (ys ++ zs) ≡ (xs ++ ys) ++ zs
    assoc [] ys zs = refl
    assoc (x ∷ xs) ys zs = ap (λ (r : List Area). x ∷ r) (assoc xs ys zs)

    by_test : (t : Bool) → (r.at == at) ≡ t → (if t then Some r else row_at at rows) ≡ None → Holds at (r.blocks ++ (row_areas rows ++ holes)) → (row_at at rows ≡ None → Holds at (row_areas rows ++ holes) → Holds at holes) → Holds at holes
    by_test true e f g ih = absurd cc
    by_test false e f g ih = ih f (one_none size at r r.blocks (row_areas rows ++ holes) some m slots.0.1 slots.0.0 all.0 e g)

hole_zero : (d : Defs) (x : List ℕ) (at : ℕ) (holes : List Area) → 0 < d.slot_length → at % d.slot_length ≡ 0 → AllByRecursion (IsSlot d.slot_length) holes → AreMultiples d.slot_length holes → ListSlots d x holes → Holds at holes → slice_index (slot_bytes d x at) 0 ≡ 0
hole_zero d x at [] some m slots all l h = absurd h
hole_zero d x at (a ∷ holes) some m slots all l (inl h) =
    let same = same_multiple d.slot_length a.at at some all.0 m h.0 (omega (arith, h.1, slots.0)) in
    ap (λ (p : ℕ). slice_index (slot_bytes d x p) 0) (sym same) ∙ l.0
hole_zero d x at (a ∷ holes) some m slots all l (inr h) = hole_zero d x at holes some m slots.1 all.1 l.2 h

pub no-row-there : (d : Defs) (s : TableState) (x : List ℕ) (at : ℕ) → IsSound d → d.format ≡ Static → IsStatic d s x → row_at at s.rows ≡ None → is_row d x at ≡ false
unfolding is_row
no-row-there d s x at sound static k none = by_test (is_slot d.slot_length (length x) at && packs d (slot_bytes d x at)) refl
  where
    by_value : (o : Option Values) → row_of d (slot_bytes d x at) ≡ o → is_some o ≡ true → slice_index (slot_bytes d x at) 0 ≡ 0 → ⊥
    by_value None e t z = absurd cc
    by_value (Some v) e t z = absurd (eqb-false _ _ (static-begins d (slot_bytes d x at) v static e) z)

    by_test : (t : Bool) → (is_slot d.slot_length (length x) at && packs d (slot_bytes d x at)) ≡ t → t ≡ false
    by_test false e = refl
    by_test true e =
        let t = halves (is_slot d.slot_length (length x) at) (packs d (slot_bytes d x at)) e in
        let slot = slot-is d.slot_length (length x) at t.0 in
        let some : 0 < d.slot_length = omega (arith, sound.slot_pointer static) in
        let m = multiples_left d.slot_length (row_areas s.rows) s.space.holes (multiples d s x sound k) in
        let held = tile-holds s.space.end (row_areas s.rows ++ s.space.holes) k.state.tile at (omega (arith, slot.1, some, k.long)) in
        let gone = rows_none d.slot_length at s.rows s.space.holes some slot.0 k.slots (row_multiples d.slot_length s.rows m.0) none held in
        absurd (by_value (row_of d (slot_bytes d x at)) refl t.1 (hole_zero d x at s.space.holes some slot.0 k.holes m.1 k.list gone))

-- ---- the head of the list

first_byte : (n : ℕ) (y : List ℕ) → 0 < n → slice_index (take n y) 0 ≡ slice_index y 0
first_byte zero y some = absurd (omega arith)
first_byte (suc n) [] some = refl
first_byte (suc n) (b ∷ y) some = refl

slot_less : (size at end : ℕ) → 0 < size → at + size ≤ end → at / size < end / size
slot_less size at end some le =
    let last : end < end / size * size + size = lt-div-mul-add some in
    (div-lt_iff_lt-mul some).1 (omega (arith, last, le))

link_found : (size width end n : ℕ) (next : Option ℕ) → 0 < size → named_slot size width n ≡ next → ((p : ℕ) → next ≡ Some p → p + size ≤ end) → link_of size width end n ≡ Some next
unfolding link_of
link_found size width end n next some e inside = by_none (n == 256 ^ width - 1) e
  where
    by_none : (t : Bool) → (if t then None else Some (n * size)) ≡ next → link_by t (nat_lt n (end / size)) (n * size) ≡ Some next
    by_none true e = ap (λ (o : Option ℕ). Some o) e
    by_none false e =
        let le = inside (n * size) (sym e) in
        let back : n * size / size ≡ n = ap (λ (k : ℕ). k / size) (omega arith) ∙ div-mul-add n size 0 some in
        let low : n * size / size < end / size = slot_less size (n * size) end some le in
        let test : nat_lt n (end / size) ≡ true = lt-ltb _ _ (omega (arith, back, low)) in
        rw test (ap (λ (o : Option ℕ). Some o) e)

pub head-there : (d : Defs) (s : TableState) (x : List ℕ) (h : Area) (holes : List Area) → IsSound d → d.format ≡ Static → IsStatic d s x → s.space.holes ≡ h ∷ holes → hole_in d.slot_length d.rec_ref x h.at ≡ Some (first_or holes None)
unfolding hole_in
head-there d s x h holes sound static k e =
    let size = d.slot_length in
    let some : 0 < size = omega (arith, sound.slot_pointer static) in
    let all = row_areas s.rows ++ s.space.holes in
    let m = subst (λ (xs : List Area). AreMultiples size xs) e (multiples_left size (row_areas s.rows) s.space.holes (multiples d s x sound k)).1 in
    let inside = subst (λ (xs : List Area). AreInside s.space.end xs) e (right (row_areas s.rows) s.space.holes (tile-inside s.space.end all (state-bytes d s sound k.state) k.state.tile)) in
    let slots = subst (λ (xs : List Area). AllByRecursion (IsSlot size) xs) e k.holes in
    let list = subst (λ (xs : List Area). ListSlots d x xs) e k.list in
    let slot = slot-true size (length x) h.at m.0 (omega (arith, inside.0, slots.0, k.long)) in
    let zero_is : (slice_index (drop h.at x) 0 == 0) ≡ true = zero_test (slice_index (drop h.at x) 0) (sym (first_byte size (drop h.at x) some) ∙ list.0) in
    let number : num_at (h.at + 1) d.rec_ref x ≡ num d.rec_ref (drop 1 (drop h.at x)) = ap (λ (y : List ℕ). num d.rec_ref y) (sym (drop-drop 1 h.at x)) in
    let named : named_slot size d.rec_ref (num d.rec_ref (drop 1 (drop h.at x))) ≡ first_or holes None = ap (λ (n : ℕ). named_slot size d.rec_ref n) (sym number) ∙ list.1 in
    ap (λ (t : Bool). link_in t size d.rec_ref (length x) (drop h.at x)) (both_true (is_slot size (length x) h.at) (slice_index (drop h.at x) 0 == 0) slot zero_is)
    ∙ link_found size d.rec_ref (length x) (num d.rec_ref (drop 1 (drop h.at x))) (first_or holes None) some named (next_inside size holes inside.1 slots.1)
  where
    right : (xs ys : List Area) → AreInside s.space.end (xs ++ ys) → AreInside s.space.end ys
    right [] ys all = all
    right (z ∷ xs) ys all = right xs ys all.1

    next_inside : (size : ℕ) (holes : List Area) → AreInside s.space.end holes → AllByRecursion (IsSlot size) holes → (p : ℕ) → first_or holes None ≡ Some p → p + size ≤ length x
    next_inside size [] all slots p e = absurd cc
    next_inside size (a ∷ holes) all slots p e = let at : a.at ≡ p = cc in omega (arith, all.0, slots.0, at, k.long)

-- the deleted slots of a state stand in the file
pub record AreKnown (d : Defs) (s : TableState) : Type 0 where
  pub multiple : AreMultiples d.slot_length s.space.holes
  pub inside : AreInside s.space.end s.space.holes
  pub slots : AllByRecursion (λ (a : Area). is_slot d.slot_length s.space.end a.at ≡ true) s.space.holes

pub holes-known : (d : Defs) (s : TableState) (x : List ℕ) → IsSound d → d.format ≡ Static → IsStatic d s x → AreKnown d s
holes-known d s x sound static k =
    let m = (multiples_left d.slot_length (row_areas s.rows) s.space.holes (multiples d s x sound k)).1 in
    let inside = right (row_areas s.rows) s.space.holes (tile-inside s.space.end (row_areas s.rows ++ s.space.holes) (state-bytes d s sound k.state) k.state.tile) in
    record { multiple = m; inside = inside; slots = each s.space.holes m inside k.holes }
  where
    right : (xs ys : List Area) → AreInside s.space.end (xs ++ ys) → AreInside s.space.end ys
    right [] ys all = all
    right (z ∷ xs) ys all = right xs ys all.1

    each : (holes : List Area) → AreMultiples d.slot_length holes → AreInside s.space.end holes → AllByRecursion (IsSlot d.slot_length) holes → AllByRecursion (λ (a : Area). is_slot d.slot_length s.space.end a.at ≡ true) holes
    each [] m inside slots = tt
    each (a ∷ holes) m inside slots = (slot-true d.slot_length s.space.end a.at m.0 (omega (arith, inside.0, slots.0)), each holes m.1 inside.1 slots.1)
