-- The head of a deleted slot, as it is read and as its bytes stand in the file.
use Rattle.std.proofs.Common.{◌≡◌, ℕ, zero, suc, ◌+◌, ◌-◌, ◌*◌, ◌/◌, ◌^◌, ◌<◌, ◌≤◌, Bool, true, false, List, [], ◌∷◌, length, take, drop, Some, None, refl, sym, ap, ◌∙◌, arith, length-drop}
use Rattle.std.specs.Prelude.{◌==◌, nat_lt, ◌&&◌, slice_index}
use Rattle.std.proofs.lemmas.List.{take-take, take-append-le, length-take}
use Rattle.std.proofs.lemmas.Bool.{ne_eqb, lt-ltb, le-ltb}
use Rattle.myi_base.specs.Holding.{filled}
use Rattle.myi_base.specs.Numbers.{num}
use Rattle.myi_base.proofs.CallerLemmas.{num-take}
use Rattle.myi_slots.specs.SlotBytes.{is_slot, link_of, link_in, hole_in}
use Rattle.myi_slots.proofs.FoundLemmas.{slot-is}

-- ---- links

pub link-none : (size width end n none : ℕ) → none ≡ 256 ^ width - 1 → n ≡ none → link_of size width end n ≡ Some None
unfolding link_of
link-none size width end n none e f = let same : (n == 256 ^ width - 1) ≡ true = grind (arith, e, f) in rw same refl

pub link-some : (size width end n none : ℕ) → none ≡ 256 ^ width - 1 → (n ≡ none → ⊥) → n < end / size → link_of size width end n ≡ Some (Some (n * size))
unfolding link_of
link-some size width end n none e ne lt =
    let other : (n == 256 ^ width - 1) ≡ false = ne_eqb _ _ (λ same. ne (omega (arith, same, e))) in
    let test : nat_lt n (end / size) ≡ true = lt-ltb _ _ lt in
    rw (other, test) refl

pub link-bad : (size width end n none : ℕ) → none ≡ 256 ^ width - 1 → (n ≡ none → ⊥) → end / size ≤ n → link_of size width end n ≡ None
unfolding link_of
link-bad size width end n none e ne le =
    let other : (n == 256 ^ width - 1) ≡ false = ne_eqb _ _ (λ same. ne (omega (arith, same, e))) in
    let test : nat_lt n (end / size) ≡ false = le-ltb _ _ le in
    rw (other, test) refl

-- ---- only the first bytes count

first_front : (n : ℕ) (y : List ℕ) → slice_index (take (n + 1) y) 0 ≡ slice_index y 0
first_front n y = by_suc (n + 1) y (omega arith)
  where
    by_suc : (k : ℕ) (y : List ℕ) → 0 < k → slice_index (take k y) 0 ≡ slice_index y 0
    by_suc zero y some = absurd (omega arith)
    by_suc (suc k) [] some = refl
    by_suc (suc k) (b ∷ y) some = refl

number_front : (w : ℕ) (y : List ℕ) → num w (drop 1 y) ≡ num w (drop 1 (take (w + 1) y))
number_front w y =
    sym (num-take w w (drop 1 y) (omega arith))
    ∙ ap (λ (z : List ℕ). num w z) (front w (w + 1) y (omega arith))
    ∙ num-take w w (drop 1 (take (w + 1) y)) (omega arith)
  where
    front : (w n : ℕ) (y : List ℕ) → w + 1 ≤ n → take w (drop 1 y) ≡ take w (drop 1 (take n y))
    front w zero y le = absurd (omega arith)
    front w (suc n) [] le = refl
    front w (suc n) (b ∷ y) le = sym (take-take w n y (omega arith))

link_front : (size w end : ℕ) (y z : List ℕ) → take (w + 1) y ≡ take (w + 1) z → link_in (slice_index y 0 == 0) size w end y ≡ link_in (slice_index z 0 == 0) size w end z
link_front size w end y z e =
    let first : slice_index y 0 ≡ slice_index z 0 = sym (first_front w y) ∙ ap (λ (q : List ℕ). slice_index q 0) e ∙ first_front w z in
    let number : num w (drop 1 y) ≡ num w (drop 1 z) = number_front w y ∙ ap (λ (q : List ℕ). num w (drop 1 q)) e ∙ sym (number_front w z) in
    by_test (slice_index y 0 == 0) (slice_index z 0 == 0) (ap (λ (n : ℕ). n == 0) first) number
  where
    by_test : (s t : Bool) → s ≡ t → num w (drop 1 y) ≡ num w (drop 1 z) → link_in s size w end y ≡ link_in t size w end z
    by_test true true f g = ap (λ (n : ℕ). link_of size w end n) g
    by_test false false f g = refl
    by_test true false f g = absurd cc
    by_test false true f g = absurd cc

-- ---- what is read

read_front : (w at : ℕ) (into x : List ℕ) → w + 1 ≤ length into → at + (w + 1) ≤ length x → take (w + 1) (filled at into x) ≡ take (w + 1) (drop at x)
read_front w at into x room inside =
    let y = drop at x in
    let long : w + 1 ≤ length (take (length into) y) = omega (arith, length-take (length into) y, length-drop at x, room, inside) in
    take-append-le (w + 1) (take (length into) y) (drop (length y) into) long ∙ take-take (w + 1) (length into) y room

-- no slot stands there
pub no-slot : (size w end at : ℕ) (x : List ℕ) → length x ≡ end → is_slot size end at ≡ false → hole_in size w x at ≡ None
unfolding hole_in
no-slot size w end at x long e =
    let none : is_slot size (length x) at ≡ false = ap (λ (n : ℕ). is_slot size n at) long ∙ e in
    by_test (is_slot size (length x) at) none
  where
    by_test : (t : Bool) → t ≡ false → link_in (t && (slice_index (drop at x) 0 == 0)) size w (length x) (drop at x) ≡ None
    by_test true f = absurd cc
    by_test false f = refl

-- what the head says is what stands there
pub head-link : (size w end at : ℕ) (into head x : List ℕ) → length x ≡ end → is_slot size end at ≡ true → w + 1 ≤ length into → w + 1 ≤ size → head ≡ filled at into x → hole_in size w x at ≡ link_in (slice_index head 0 == 0) size w end head
unfolding hole_in
head-link size w end at into head x long slot room wide e =
    let is : is_slot size (length x) at ≡ true = ap (λ (n : ℕ). is_slot size n at) long ∙ slot in
    let inside = (slot-is size end at slot).1 in
    let front : take (w + 1) head ≡ take (w + 1) (drop at x) = ap (λ (y : List ℕ). take (w + 1) y) e ∙ read_front w at into x room (omega (arith, inside, wide, long)) in
    ap (λ (t : Bool). link_in (t && (slice_index (drop at x) 0 == 0)) size w (length x) (drop at x)) is
    ∙ ap (λ (n : ℕ). link_in (slice_index (drop at x) 0 == 0) size w n (drop at x)) long
    ∙ sym (link_front size w end head (drop at x) front)
