-- The slots of a list of bytes, from its front on.
use Rattle.std.proofs.Common.{◌≡◌, ℕ, zero, suc, ◌+◌, ◌-◌, ◌/◌, ◌<◌, ◌≤◌, List, [], ◌∷◌, length, take, drop, refl, ap, ◌∙◌, arith, add-one}
use Rattle.std.specs.Prelude.{slice_index}
use Rattle.std.proofs.Math.Nat.{div-eq_of_lt, add-div_right}
use Rattle.std.proofs.lemmas.List.{get_or-take, get_or-drop, length-drop}
use Rattle.myi_data.specs.Slots.{slots, slots_in}

-- one slot and those behind it
pub slots_more : (at size : ℕ) (xs : List ℕ) → 0 < size → size ≤ length xs → slots_in at size xs ≡ record { at = at; bytes = take size xs } ∷ slots_in (at + size) size (drop size xs)
slots_more at size xs some inside =
    let rest : length (drop size xs) ≡ length xs - size = length-drop size xs in
    let all : length xs ≡ length (drop size xs) + size = omega (arith, rest) in
    let count : length xs / size ≡ suc (length (drop size xs) / size) = ap (λ n. n / size) all ∙ add-div_right (length (drop size xs)) some ∙ add-one (length (drop size xs) / size) in
    ap (λ n. slots n at size xs) count

pub slots_none : (at size : ℕ) (xs : List ℕ) → length xs < size → slots_in at size xs ≡ []
slots_none at size xs short = ap (λ n. slots n at size xs) (div-eq_of_lt short)

pub length-slots : (n at size : ℕ) (xs : List ℕ) → length (slots n at size xs) ≡ n
length-slots zero at size xs = refl
length-slots (suc n) at size xs = let rest = length-slots n (at + size) size (drop size xs) in omega (arith, rest)

pub first_byte : (size : ℕ) (xs : List ℕ) → 0 < size → slice_index (take size xs) 0 ≡ slice_index xs 0
first_byte size xs some = get_or-take size xs 0 0 some

pub at_place : (at : ℕ) (bytes : List ℕ) → slice_index (drop at bytes) 0 ≡ slice_index bytes at
at_place at bytes = get_or-drop at bytes 0 0 ∙ ap (λ n. slice_index bytes n) (let e : at + 0 ≡ at = omega arith in e)

pub drop_none : (xs : List ℕ) → drop 0 xs ≡ xs
drop_none [] = refl
drop_none (x ∷ xs) = refl
