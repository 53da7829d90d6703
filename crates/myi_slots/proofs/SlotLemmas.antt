-- Static data files that change: slots apart from what is written stand as before, and what is written stands there.
use Rattle.std.proofs.Common.{◌≡◌, ℕ, zero, suc, ◌+◌, ◌-◌, ◌^◌, ◌<◌, ◌≤◌, ◌⊎◌, inl, inr, List, [], ◌∷◌, ◌++◌, append_assoc, length, take, drop, Option, Some, None, refl, sym, ap, subst, ◌∙◌, arith}
use Rattle.std.specs.Prelude.{slice_index, replicate}
use Rattle.std.specs.List.{AllByRecursion}
use Rattle.std.proofs.lemmas.List.{drop-drop, take-take, length-take, length-append, length-replicate}
use Rattle.std.proofs.Math.Seq.{drop-append_seam, take-append_seam}
use Rattle.myi_base.specs.Holding.{overwritten, resized}
use Rattle.myi_base.specs.Numbers.{num, num_at, num_bytes}
use Rattle.myi_base.proofs.CallerLemmas.{length-num_bytes, num-num_bytes, num-take}
use Rattle.myi_defs.specs.declared.types.Defs.{Defs}
use Rattle.myi_pack.specs.Unpacking.{row_of}
use Rattle.myi_frames.proofs.CallerLemmas.{part-overwritten}
use Rattle.myi_dellist.specs.Areas.{Area, IsApart, AreInside}
use Rattle.myi_dellist.specs.Standing.{first_or}
use Rattle.myi_state.specs.State.{StoredRow, row_areas}
use Rattle.myi_state.specs.Sound.{IsSlot, AreOneSlot}
use Rattle.myi_state.specs.Standing.{slot_bytes, StandsInSlot, named_slot, ListSlots}
use Rattle.myi_slots.specs.SlotBytes.{slot_number, hole_bytes}

-- ---- what is written stands there

length-resized : (n : ℕ) (xs : List ℕ) → length (resized n xs) ≡ n
length-resized n xs = omega (arith, length-append (take n xs) (replicate (n - length xs) 0), length-take n xs, length-replicate {A = ℕ} (n - length xs) 0)

pub written : (at : ℕ) (bytes x : List ℕ) → drop at (overwritten at bytes x) ≡ bytes ++ drop (at + length bytes) x
written at bytes x = by_front (resized at x) (length-resized at x)
  where
    by_front : (front : List ℕ) → length front ≡ at → drop at (front ++ bytes ++ drop (at + length bytes) x) ≡ bytes ++ drop (at + length bytes) x
    by_front front e =
        ap (λ (n : ℕ). drop n (front ++ bytes ++ drop (at + length bytes) x)) (sym e)
        ∙ ap (λ (y : List ℕ). drop (length front) y) (append_assoc front bytes (drop (at + length bytes) x))
        ∙ drop-append_seam front (bytes ++ drop (at + length bytes) x)

pub written-slot : (d : Defs) (at : ℕ) (bytes x : List ℕ) → length bytes ≡ d.slot_length → slot_bytes d (overwritten at bytes x) at ≡ bytes
written-slot d at bytes x long =
    ap (λ (y : List ℕ). take d.slot_length y) (written at bytes x)
    ∙ ap (λ (n : ℕ). take n (bytes ++ drop (at + length bytes) x)) (sym long)
    ∙ take-append_seam bytes (drop (at + length bytes) x)

-- ---- slots apart from what is written

other-slot : (d : Defs) (a b : Area) (bytes x : List ℕ) → IsApart a b → length bytes ≤ a.size → b.size ≡ d.slot_length → b.at + b.size ≤ length x → slot_bytes d (overwritten a.at bytes x) b.at ≡ slot_bytes d x b.at
other-slot d a b bytes x far few size inside =
    part-overwritten a.at bytes x b.at d.slot_length (side far) (omega (arith, size, inside))
  where
    side : IsApart a b → (b.at + d.slot_length ≤ a.at) ⊎ (a.at + length bytes ≤ b.at)
    side (inl le) = inr (omega (arith, le, few))
    side (inr le) = inl (omega (arith, le, size))

-- of rows in one slot each
abbrev pub InSlots : ℕ → StoredRow → Type 0
InSlots size r = (first_or r.blocks None ≡ Some r.at) × AreOneSlot size r.blocks

row_other : (d : Defs) (a : Area) (bytes x : List ℕ) (r : StoredRow) (blocks : List Area) → r.blocks ≡ blocks → first_or blocks None ≡ Some r.at → AreOneSlot d.slot_length blocks → AllByRecursion (IsApart a) blocks → AreInside (length x) blocks → length bytes ≤ a.size → StandsInSlot d x r → StandsInSlot d (overwritten a.at bytes x) r
row_other d a bytes x r [] same place one far inside few stands = absurd one
row_other d a bytes x r (b ∷ []) same place one far inside few stands =
    let at : b.at ≡ r.at = cc in
    let kept : slot_bytes d (overwritten a.at bytes x) r.at ≡ slot_bytes d x r.at = subst (λ (p : ℕ). slot_bytes d (overwritten a.at bytes x) p ≡ slot_bytes d x p) at (other-slot d a b bytes x far.0 few one inside.0) in
    ap (λ (y : List ℕ). row_of d y) kept ∙ stands
row_other d a bytes x r (b ∷ c ∷ blocks) same place one far inside few stands = absurd one

all_left : (P : Area → Type 0) (xs ys : List Area) → AllByRecursion P (xs ++ ys) → AllByRecursion P xs × AllByRecursion P ys
all_left P [] ys all = (tt, all)
all_left P (x ∷ xs) ys all = let t = all_left P xs ys all.1 in ((all.0, t.0), t.1)

pub rows-other : (d : Defs) (a : Area) (bytes x : List ℕ) (rows : List StoredRow) → AllByRecursion (InSlots d.slot_length) rows → AllByRecursion (IsApart a) (row_areas rows) → AreInside (length x) (row_areas rows) → length bytes ≤ a.size → AllByRecursion (StandsInSlot d x) rows → AllByRecursion (StandsInSlot d (overwritten a.at bytes x)) rows
rows-other d a bytes x [] slots far inside few stands = tt
rows-other d a bytes x (r ∷ rows) slots far inside few stands =
    let f = all_left (IsApart a) r.blocks (row_areas rows) far in
    let i = all_left (λ (b : Area). b.at + b.size ≤ length x) r.blocks (row_areas rows) inside in
    (row_other d a bytes x r r.blocks refl slots.0.0 slots.0.1 f.0 i.0 few stands.0, rows-other d a bytes x rows slots.1 f.1 i.1 few stands.1)

-- the number in a slot is of the slot's bytes
number_in : (d : Defs) (x : List ℕ) (at : ℕ) → d.rec_ref + 1 ≤ d.slot_length → num_at (at + 1) d.rec_ref x ≡ num d.rec_ref (drop 1 (slot_bytes d x at))
number_in d x at wide =
    ap (λ (y : List ℕ). num d.rec_ref y) (sym (drop-drop 1 at x))
    ∙ sym (num-take d.rec_ref d.rec_ref (drop 1 (drop at x)) (omega arith))
    ∙ ap (λ (y : List ℕ). num d.rec_ref y) (front d.rec_ref d.slot_length (drop at x) wide)
    ∙ num-take d.rec_ref d.rec_ref (drop 1 (take d.slot_length (drop at x))) (omega arith)
  where
    front : (w n : ℕ) (y : List ℕ) → w + 1 ≤ n → take w (drop 1 y) ≡ take w (drop 1 (take n y))
    front w zero y le = absurd (omega arith)
    front w (suc n) [] le = refl
    front w (suc n) (b ∷ y) le = sym (take-take w n y (omega arith))

hole_other : (d : Defs) (a : Area) (bytes x : List ℕ) (holes : List Area) → d.rec_ref + 1 ≤ d.slot_length → AllByRecursion (IsSlot d.slot_length) holes → AllByRecursion (IsApart a) holes → AreInside (length x) holes → length bytes ≤ a.size → ListSlots d x holes → ListSlots d (overwritten a.at bytes x) holes
hole_other d a bytes x [] wide slots far inside few l = tt
hole_other d a bytes x (h ∷ holes) wide slots far inside few l =
    let e = overwritten a.at bytes x in
    let kept = other-slot d a h bytes x far.0 few slots.0 inside.0 in
    let number : num_at (h.at + 1) d.rec_ref e ≡ num_at (h.at + 1) d.rec_ref x = number_in d e h.at wide ∙ ap (λ (y : List ℕ). num d.rec_ref (drop 1 y)) kept ∙ sym (number_in d x h.at wide) in
    (ap (λ (y : List ℕ). slice_index y 0) kept ∙ l.0, ap (λ (n : ℕ). named_slot d.slot_length d.rec_ref n) number ∙ l.1, hole_other d a bytes x holes wide slots.1 far.1 inside.1 few l.2)

pub holes-other : (d : Defs) (a : Area) (bytes x : List ℕ) (holes : List Area) → d.rec_ref + 1 ≤ d.slot_length → AllByRecursion (IsSlot d.slot_length) holes → AllByRecursion (IsApart a) holes → AreInside (length x) holes → length bytes ≤ a.size → ListSlots d x holes → ListSlots d (overwritten a.at bytes x) holes
holes-other = hole_other

-- ---- a deleted slot that is written

first_of : (size : ℕ) (b : ℕ) (y : List ℕ) → 0 < size → slice_index (take size (b ∷ y)) 0 ≡ b
first_of zero b y some = absurd (omega arith)
first_of (suc n) b y some = refl

pub hole-first : (d : Defs) (at : ℕ) (next : Option ℕ) (x : List ℕ) → 0 < d.slot_length → slice_index (slot_bytes d (overwritten at (hole_bytes d.slot_length d.rec_ref next) x) at) 0 ≡ 0
hole-first d at next x some =
    let bytes = hole_bytes d.slot_length d.rec_ref next in
    ap (λ (y : List ℕ). slice_index (take d.slot_length y) 0) (written at bytes x)
    ∙ first_of d.slot_length 0 (num_bytes d.rec_ref (slot_number d.slot_length d.rec_ref next) ++ drop (at + length bytes) x) some

pub hole-number : (d : Defs) (at : ℕ) (next : Option ℕ) (x : List ℕ) → slot_number d.slot_length d.rec_ref next < 256 ^ d.rec_ref → num_at (at + 1) d.rec_ref (overwritten at (hole_bytes d.slot_length d.rec_ref next) x) ≡ slot_number d.slot_length d.rec_ref next
hole-number d at next x fits =
    let bytes = hole_bytes d.slot_length d.rec_ref next in
    ap (λ (y : List ℕ). num d.rec_ref y) (sym (drop-drop 1 at (overwritten at bytes x)))
    ∙ ap (λ (y : List ℕ). num d.rec_ref (drop 1 y)) (written at bytes x)
    ∙ num-num_bytes d.rec_ref (slot_number d.slot_length d.rec_ref next) (drop (at + length bytes) x) fits

pub length-hole : (size width : ℕ) (next : Option ℕ) → length (hole_bytes size width next) ≡ width + 1
length-hole size width next = omega (arith, length-num_bytes width (slot_number size width next))
