-- The blocks that a row takes at the file's end, one after the other.
use Rattle.std.proofs.Common.{◌≡◌, ℕ, zero, suc, ◌+◌, ◌-◌, ◌^◌, ◌<◌, ◌≤◌, inr, Bool, true, false, List, [], ◌∷◌, ◌++◌, Some, refl, sym, ap, ◌∙◌, arith, append_assoc}
use Rattle.std.specs.Prelude.{nat_lt, ◌==◌, length, Result, Ok, Err, IfErr}
use Rattle.std.proofs.lemmas.Bool.{lt-ltb, le-ltb, ltb-false, eqb-true}
use Rattle.myi_frames.specs.Sizes.{least_size}
use Rattle.myi_dellist.specs.declared.fault.FreeFault.{FreeFault}
use Rattle.myi_dellist.specs.declared.fault.FreeFault.TheVariants as fault
use Rattle.myi_dellist.specs.declared.pieces.Piece.{Piece}
use Rattle.myi_dellist.specs.Releasing.{most_size}
use Rattle.myi_dellist.specs.Placing.{room, append_one, append_from, end_behind, is_none, place_of}
use Rattle.myi_dellist.specs.Rows.{IfFull}
use Rattle.myi_dellist.proofs.SizeLemmas.{room-bounds}
use Rattle.myi_dellist.proofs.PlaceLemmas.{append_ends}

-- how many bytes there may be at most does not matter
pub append_same : (f g len : ℕ) (first : Bool) (left at : ℕ) → 0 < left → left ≤ f → left ≤ g → append_from f len first left at ≡ append_from g len first left at
append_same zero g len first left at some le lf = absurd (omega arith)
append_same (suc f) zero len first left at some le lf = absurd (omega arith)
append_same (suc f) (suc g) len first left at some le lf =
    let cap = room-bounds len first most_size (omega arith) in
    by_test (nat_lt left (2 ^ 24)) refl (λ (far : 2 ^ 24 ≤ left). append_same f g len false (left - room len first most_size) (at + most_size) (omega (arith, far, cap.1)) (omega (arith, far, cap.0)) (omega (arith, far, cap.0)))
  where
    by_test : (b : Bool) → nat_lt left (2 ^ 24) ≡ b → (2 ^ 24 ≤ left → append_from f len false (left - room len first most_size) (at + most_size) ≡ append_from g len false (left - room len first most_size) (at + most_size)) → append_one len first left at b (λ more. append_from f len false more (at + most_size)) ≡ append_one len first left at b (λ more. append_from g len false more (at + most_size))
    by_test true e ih = refl
    by_test false e ih = ap (λ (ps : List Piece). record { at = at; size = most_size; taken = room len first most_size } ∷ ps) (ih (ltb-false _ _ e))

-- the last block
pub append_last : (fuel len : ℕ) (first : Bool) (left at : ℕ) → 0 < left → left ≤ fuel → left < 2 ^ 24 → append_from fuel len first left at ≡ record { at = at; size = least_size left; taken = left } ∷ []
append_last zero len first left at some le lt = absurd (omega arith)
append_last (suc fuel) len first left at some le lt = ap (λ (b : Bool). append_one len first left at b (λ more. append_from fuel len false more (at + most_size))) (lt-ltb left (2 ^ 24) lt)

-- one that is filled, and those behind it
pub append_full : (fuel len : ℕ) (first : Bool) (left at : ℕ) → left ≤ fuel → 2 ^ 24 ≤ left → append_from fuel len first left at ≡ record { at = at; size = most_size; taken = room len first most_size } ∷ append_from (left - room len first most_size) len false (left - room len first most_size) (at + most_size)
append_full zero len first left at le far = absurd (omega arith)
append_full (suc fuel) len first left at le far =
    let cap = room-bounds len first most_size (omega arith) in
    ap (λ (b : Bool). append_one len first left at b (λ more. append_from fuel len false more (at + most_size))) (le-ltb left (2 ^ 24) far)
    ∙ ap (λ (ps : List Piece). record { at = at; size = most_size; taken = room len first most_size } ∷ ps) (append_same fuel (left - room len first most_size) len false (left - room len first most_size) (at + most_size) (omega (arith, far, cap.1)) (omega (arith, le, cap.0)) (omega arith))

none_behind : (ps : List Piece) (p : Piece) → is_none (ps ++ p ∷ []) ≡ false
none_behind [] p = refl
none_behind (q ∷ ps) p = refl

-- ---- the steps of the code: what is planned, and what is to come

pub record IsStep (len : ℕ) (ps qs : List Piece) (left at taken : ℕ) : Type 0 where
  pub far : 2 ^ 24 ≤ left
  pub is_taken : taken ≡ room len (is_none ps) most_size
  pub added : qs ≡ ps ++ record { at = at; size = most_size; taken = taken } ∷ []

pub step_pieces : (len : ℕ) (ps qs : List Piece) (left at taken : ℕ) → IsStep len ps qs left at taken → qs ++ append_from (left - taken) len (is_none qs) (left - taken) (at + most_size) ≡ ps ++ append_from left len (is_none ps) left at
step_pieces len ps qs left at taken s =
    let r : ℕ = room len (is_none ps) most_size in
    let p : Piece = record { at = at; size = most_size; taken = r } in
    let q : qs ≡ ps ++ p ∷ [] = s.added ∙ ap (λ (n : ℕ). ps ++ record { at = at; size = most_size; taken = n } ∷ []) s.is_taken in
    ap (λ (n : ℕ). qs ++ append_from (left - n) len (is_none qs) (left - n) (at + most_size)) s.is_taken
    ∙ ap (λ (b : Bool). qs ++ append_from (left - r) len b (left - r) (at + most_size)) (ap is_none q ∙ none_behind ps p)
    ∙ ap (λ (xs : List Piece). xs ++ append_from (left - r) len false (left - r) (at + most_size)) q
    ∙ append_assoc ps (p ∷ []) (append_from (left - r) len false (left - r) (at + most_size))
    ∙ ap (λ (xs : List Piece). ps ++ xs) (sym (append_full left len (is_none ps) left at (omega arith) s.far))

pub step_end : (len : ℕ) (ps qs : List Piece) (left at taken : ℕ) → IsStep len ps qs left at taken → end_behind (at + most_size) (append_from (left - taken) len (is_none qs) (left - taken) (at + most_size)) ≡ end_behind at (append_from left len (is_none ps) left at)
step_end len ps qs left at taken s =
    let r : ℕ = room len (is_none ps) most_size in
    let p : Piece = record { at = at; size = most_size; taken = r } in
    let q : qs ≡ ps ++ p ∷ [] = s.added ∙ ap (λ (n : ℕ). ps ++ record { at = at; size = most_size; taken = n } ∷ []) s.is_taken in
    ap (λ (n : ℕ). end_behind (at + most_size) (append_from (left - n) len (is_none qs) (left - n) (at + most_size))) s.is_taken
    ∙ ap (λ (b : Bool). end_behind (at + most_size) (append_from (left - r) len b (left - r) (at + most_size))) (ap is_none q ∙ none_behind ps p)
    ∙ ap (end_behind at) (sym (append_full left len (is_none ps) left at (omega arith) s.far))

pub step_less : (len : ℕ) (first : Bool) (left taken : ℕ) → 2 ^ 24 ≤ left → taken ≡ room len first most_size → (0 < taken) × (taken < left)
step_less len first left taken far is = let cap = room-bounds len first most_size (omega arith) in (omega (arith, cap.0, is), omega (arith, cap.1, is, far))

-- no end of the whole is below that of the first block
pub full_grows : (len : ℕ) (first : Bool) (left at : ℕ) → 2 ^ 24 ≤ left → at + most_size ≤ end_behind at (append_from left len first left at)
full_grows len first left at far =
    let r : ℕ = room len first most_size in
    let cap = room-bounds len first most_size (omega arith) in
    let more = append_ends (left - r) len false (left - r) (at + most_size) (omega arith) (inr (omega (arith, far, cap.1))) in
    omega (arith, more.grows, ap (end_behind at) (append_full left len first left at (omega arith) far))

pub last_end : (len : ℕ) (first : Bool) (left at : ℕ) → 0 < left → left < 2 ^ 24 → end_behind at (append_from left len first left at) ≡ at + least_size left
last_end len first left at some lt = ap (end_behind at) (append_last left len first left at some (omega arith) lt)

pub append_place : (fuel len : ℕ) (first : Bool) (left at : ℕ) → 0 < fuel → place_of (append_from fuel len first left at) ≡ Some at
append_place zero len first left at some = absurd (omega arith)
append_place (suc fuel) len first left at some = by_test (nat_lt left (2 ^ 24))
  where
    by_test : (b : Bool) → place_of (append_one len first left at b (λ more. append_from fuel len false more (at + most_size))) ≡ Some at
    by_test true = refl
    by_test false = refl

pub empty_none : (n : ℕ) (ps : List Piece) → length ps ≡ n → (n == 0) ≡ is_none ps
empty_none n [] e = ap (λ (m : ℕ). m == 0) (sym e)
empty_none n (p ∷ ps) e = by_test (n == 0) refl
  where
    by_test : (b : Bool) → (n == 0) ≡ b → b ≡ false
    by_test true t = absurd (omega (arith, eqb-true _ _ t, e))
    by_test false t = refl

-- what holds anyway holds where there is no room
pub full_anyway : {A : Type 0} (r : Result A FreeFault) (P : Type 0) → P → IfErr r (λ f. IfFull f P)
full_anyway (Ok x) P p = tt
full_anyway (Err fault.Full) P p = p
full_anyway (Err (fault.Damaged at)) P p = tt
full_anyway (Err fault.File) P p = tt
full_anyway (Err fault.Memory) P p = tt
