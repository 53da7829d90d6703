-- Numbers of given widths one after the other.
use Rattle.std.proofs.Common.{◌≡◌, ℕ, ◌+◌, ◌-◌, ◌≤◌, List, [], ◌∷◌, ◌++◌, length, take, drop, refl, sym, ap, ◌∙◌, arith, append_assoc, length-append}
use Rattle.std.proofs.lemmas.List.{drop_at, drop-take}
use Rattle.myi_base.specs.Numbers.{num, num_bytes, num_at}
use Rattle.myi_base.specs.Items.{numbers, spelling, Fit, total_width}
use Rattle.myi_base.proofs.NumberLaws.{num-num_bytes, length-num_bytes, num-take}

regrouped : (a b c d : List ℕ) → a ++ ((b ++ c) ++ d) ≡ (a ++ b) ++ (c ++ d)
regrouped a b c d = ap (λ xs. a ++ xs) (append_assoc b c d) ∙ sym (append_assoc a b (c ++ d))

pub numbers-spelling : (at : ℕ) (ws vs front back : List ℕ) → length front ≡ at → Fit ws vs → numbers at ws (front ++ (spelling ws vs ++ back)) ≡ vs
numbers-spelling at [] [] front back start fit = refl
numbers-spelling at [] (v ∷ vs) front back start fit = absurd fit
numbers-spelling at (w ∷ ws) [] front back start fit = absurd fit
numbers-spelling at (w ∷ ws) (v ∷ vs) front back start fit =
    let here : drop at (front ++ ((num_bytes w v ++ spelling ws vs) ++ back)) ≡ num_bytes w v ++ (spelling ws vs ++ back) =
    drop_at front ((num_bytes w v ++ spelling ws vs) ++ back) at start ∙ append_assoc (num_bytes w v) (spelling ws vs) back in
    let first : num w (drop at (front ++ ((num_bytes w v ++ spelling ws vs) ++ back))) ≡ v =
    ap (num w) here ∙ num-num_bytes w v (spelling ws vs ++ back) fit.0 in
    let long : length (front ++ num_bytes w v) ≡ at + w = omega (arith, length-append front (num_bytes w v), length-num_bytes w v, start) in
    let others : numbers (at + w) ws (front ++ ((num_bytes w v ++ spelling ws vs) ++ back)) ≡ vs =
    ap (numbers (at + w) ws) (regrouped front (num_bytes w v) (spelling ws vs) back) ∙ numbers-spelling (at + w) ws vs (front ++ num_bytes w v) back long fit.1 in
    cc

pub length-spelling : (ws vs : List ℕ) → Fit ws vs → length (spelling ws vs) ≡ total_width ws
length-spelling [] [] fit = refl
length-spelling [] (v ∷ vs) fit = absurd fit
length-spelling (w ∷ ws) [] fit = absurd fit
length-spelling (w ∷ ws) (v ∷ vs) fit =
    let rest = length-spelling ws vs fit.1 in
    length-append (num_bytes w v) (spelling ws vs) ∙ omega (arith, length-num_bytes w v, rest)

-- a number depends on its bytes alone
num_at-take : (n at k : ℕ) (x : List ℕ) → at + n ≤ k → num_at at n (take k x) ≡ num_at at n x
num_at-take n at k x inside =
    let moved : drop at (take k x) ≡ take (k - at) (drop at x) =
    ap (λ j. drop at (take j x)) (let whole : k ≡ at + (k - at) = omega arith in whole) ∙ drop-take at (k - at) x in
    ap (num n) moved ∙ num-take n (k - at) (drop at x) (omega arith)

pub numbers-take : (at k : ℕ) (ws x y : List ℕ) → at + total_width ws ≤ k → take k x ≡ take k y → numbers at ws x ≡ numbers at ws y
numbers-take at k [] x y inside same = refl
numbers-take at k (w ∷ ws) x y inside same =
    let first : num w (drop at x) ≡ num w (drop at y) =
    sym (num_at-take w at k x (omega arith)) ∙ ap (λ xs. num w (drop at xs)) same ∙ num_at-take w at k y (omega arith) in
    let others = numbers-take (at + w) k ws x y (omega arith) same in
    cc
