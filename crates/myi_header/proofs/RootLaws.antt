-- Roots that are read, or written, one after the other.
use Rattle.std.proofs.Common.{◌≡◌, ℕ, suc, ◌+◌, ◌-◌, ◌*◌, ◌<◌, List, [], ◌∷◌, ◌++◌, sym, ap, ◌∙◌, arith, append_assoc}
use Rattle.std.specs.Prelude.{map, replicate, Option}
use Rattle.myi_base.specs.Numbers.{num_at, pointer_of}
use Rattle.myi_base.specs.Items.{numbers}

-- the roots that are left after so many
abbrev pub roots_left : ℕ → ℕ → List ℕ → List (Option ℕ)
roots_left keys done x = map pointer_of (numbers (124 + 8 * done) (replicate (keys - done) 8) x)

pub roots_left_more : (keys done : ℕ) (x : List ℕ) → done < keys → roots_left keys done x ≡ pointer_of (num_at (124 + 8 * done) 8 x) ∷ roots_left keys (done + 1) x
roots_left_more keys done x more =
    let one : keys - done ≡ suc (keys - (done + 1)) = omega arith in
    let next : 124 + 8 * done + 8 ≡ 124 + 8 * (done + 1) = omega arith in
    ap (λ n. map pointer_of (numbers (124 + 8 * done) (replicate n 8) x)) one ∙ ap (λ at. pointer_of (num_at (124 + 8 * done) 8 x) ∷ map pointer_of (numbers at (replicate (keys - (done + 1)) 8) x)) next

pub roots_step : (roots : List (Option ℕ)) (keys done : ℕ) (x : List ℕ) (whole : List (Option ℕ)) → done < keys → roots ++ roots_left keys done x ≡ whole → (roots ++ pointer_of (num_at (124 + 8 * done) 8 x) ∷ []) ++ roots_left keys (done + 1) x ≡ whole
roots_step roots keys done x whole more so_far =
    append_assoc roots (pointer_of (num_at (124 + 8 * done) 8 x) ∷ []) (roots_left keys (done + 1) x) ∙ ap (λ ys. roots ++ ys) (sym (roots_left_more keys done x more)) ∙ so_far
