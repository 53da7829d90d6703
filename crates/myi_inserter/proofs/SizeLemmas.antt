-- How many bytes the blocks of a row take behind the end.
use Rattle.std.proofs.Common.{◌≡◌, ℕ, zero, suc, ◌+◌, ◌-◌, ◌^◌, ◌≤◌, ◌<◌, Bool, true, false, nat_lt, nat_le, List, ◌∷◌, refl, ap, ◌∙◌, arith, if◌then◌else◌}
use Rattle.std.proofs.lemmas.Bool.{lt-ltb, le-ltb, ltb-false}
use Rattle.myi_frames.specs.Sizes.{least_size, start_room, middle_room}
use Rattle.myi_dellist.specs.declared.pieces.Piece.{Piece}
use Rattle.myi_dellist.specs.Releasing.{most_size}
use Rattle.myi_dellist.specs.Placing.{room, append_one, append_from, end_behind}

-- blocks stand one after the other from any place on as they do from the first
shifted : (fuel len : ℕ) (first : Bool) (left at : ℕ) → end_behind at (append_from fuel len first left at) ≡ at + end_behind 0 (append_from fuel len first left 0)
shifted zero len first left at = omega arith
shifted (suc fuel) len first left at =
    let more : ℕ = left - room len first most_size in
    by_test (nat_lt left (2 ^ 24)) (shifted fuel len false more (at + most_size)) (shifted fuel len false more (0 + most_size))
  where
    by_test : (b : Bool)
        → end_behind (at + most_size) (append_from fuel len false (left - room len first most_size) (at + most_size)) ≡ (at + most_size) + end_behind 0 (append_from fuel len false (left - room len first most_size) 0)
        → end_behind (0 + most_size) (append_from fuel len false (left - room len first most_size) (0 + most_size)) ≡ (0 + most_size) + end_behind 0 (append_from fuel len false (left - room len first most_size) 0)
        → end_behind at (append_one len first left at b (λ k. append_from fuel len false k (at + most_size))) ≡ at + end_behind 0 (append_one len first left 0 b (λ k. append_from fuel len false k (0 + most_size)))
    by_test true there here = let last : at + least_size left ≡ at + (0 + least_size left) = omega arith in last
    by_test false there here =
        let all : end_behind (at + most_size) (append_from fuel len false (left - room len first most_size) (at + most_size)) ≡ at + end_behind (0 + most_size) (append_from fuel len false (left - room len first most_size) (0 + most_size)) = omega arith in
        all

-- what a block at the end holds of a row that goes on
pub room_most : (len : ℕ) (first : Bool) → (16777196 ≤ room len first most_size) × (room len first most_size ≤ 16777201)
unfolding start_room middle_room
room_most len true = by_len (nat_le (2 ^ 24) len) (nat_le len 65535)
  where
    by_len : (b c : Bool) → (16777196 ≤ most_size - (if b then 16 else (if c then 13 else 15))) × (most_size - (if b then 16 else (if c then 13 else 15)) ≤ 16777201)
    by_len true c = (omega arith, omega arith)
    by_len false true = (omega arith, omega arith)
    by_len false false = (omega arith, omega arith)
room_most len false = (omega arith, omega arith)

-- how many bytes there may be at most does not matter
append_same : (f g len : ℕ) (first : Bool) (left at : ℕ) → 0 < left → left ≤ f → left ≤ g → append_from f len first left at ≡ append_from g len first left at
append_same zero g len first left at some le lf = absurd (omega arith)
append_same (suc f) zero len first left at some le lf = absurd (omega arith)
append_same (suc f) (suc g) len first left at some le lf =
    let cap = room_most len first in
    by_test (nat_lt left (2 ^ 24)) refl (λ (far : 2 ^ 24 ≤ left). append_same f g len false (left - room len first most_size) (at + most_size) (omega (arith, far, cap.1)) (omega (arith, far, cap.0)) (omega (arith, far, cap.0)))
  where
    by_test : (b : Bool) → nat_lt left (2 ^ 24) ≡ b → (2 ^ 24 ≤ left → append_from f len false (left - room len first most_size) (at + most_size) ≡ append_from g len false (left - room len first most_size) (at + most_size)) → append_one len first left at b (λ more. append_from f len false more (at + most_size)) ≡ append_one len first left at b (λ more. append_from g len false more (at + most_size))
    by_test true e ih = refl
    by_test false e ih = ap (λ (ps : List Piece). record { at = at; size = most_size; taken = room len first most_size } ∷ ps) (ih (ltb-false _ _ e))

-- a block that is filled, and those behind it
pub one_filled : (len : ℕ) (first : Bool) (left : ℕ) → 2 ^ 24 ≤ left
    → end_behind 0 (append_from left len first left 0) ≡ most_size + end_behind 0 (append_from (left - room len first most_size) len false (left - room len first most_size) 0)
one_filled len first zero far = absurd (omega arith)
one_filled len first (suc fuel) far =
    let left : ℕ = suc fuel in
    let more : ℕ = left - room len first most_size in
    let cap = room_most len first in
    let same = append_same fuel more len false more (0 + most_size) (omega (arith, far, cap.1)) (omega (arith, far, cap.0)) (omega arith) in
    ap (λ (b : Bool). end_behind 0 (append_one len first left 0 b (λ k. append_from fuel len false k (0 + most_size)))) (le-ltb left (2 ^ 24) far)
    ∙ ap (end_behind (0 + most_size)) same ∙ shifted more len false more (0 + most_size)

-- the last block
pub last_block : (len : ℕ) (first : Bool) (left : ℕ) → 0 < left → left < 2 ^ 24 → end_behind 0 (append_from left len first left 0) ≡ least_size left
last_block len first zero some lt = absurd (omega arith)
last_block len first (suc fuel) some lt =
    let size : 0 + least_size (suc fuel) ≡ least_size (suc fuel) = omega arith in
    ap (λ (b : Bool). end_behind 0 (append_one len first (suc fuel) 0 b (λ k. append_from fuel len false k (0 + most_size)))) (lt-ltb (suc fuel) (2 ^ 24) lt) ∙ size
