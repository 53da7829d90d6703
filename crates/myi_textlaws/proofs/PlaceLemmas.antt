-- Numbers that stand one behind the other, each read at its place.
use Rattle.std.proofs.Common.{◌≡◌, ℕ, zero, suc, ◌+◌, ◌<◌, List, [], ◌∷◌, ◌++◌, length, take, get_or, ap, ◌∙◌, arith, append_assoc, sym, length-append}
use Rattle.myi_base.specs.Numbers.{num_at}
use Rattle.myi_base.specs.Items.{numbers, spelling, Fit, total_width}
use Rattle.myi_base.proofs.CallerLemmas.{numbers-spelling}

-- the number at an index of numbers in these widths
pub number_at : (at : ℕ) (ws x : List ℕ) (i : ℕ) → i < length ws → num_at (at + total_width (take i ws)) (get_or ws i 0) x ≡ get_or (numbers at ws x) i 0
number_at at [] x i inside = absurd (omega arith)
number_at at (w ∷ ws) x zero inside =
    let here : at + 0 ≡ at = omega arith in
    ap (λ p. num_at p w x) here
number_at at (w ∷ ws) x (suc i) inside =
    let there : at + (w + total_width (take i ws)) ≡ at + w + total_width (take i ws) = omega arith in
    ap (λ p. num_at p (get_or ws i 0) x) there ∙ number_at (at + w) ws x i (omega arith)

-- a number that is spelled between others is read at its place
pub read_at : (at : ℕ) (ws vs front back : List ℕ) (i : ℕ) → length front ≡ at → Fit ws vs → i < length ws → num_at (at + total_width (take i ws)) (get_or ws i 0) (front ++ (spelling ws vs ++ back)) ≡ get_or vs i 0
read_at at ws vs front back i start fit inside =
    number_at at ws (front ++ (spelling ws vs ++ back)) i inside ∙ ap (λ ns. get_or ns i 0) (numbers-spelling at ws vs front back start fit)

-- one part of a list goes to what stands before it, or to what stands behind it
pub regrouped : {A : Type 0} (a b c d : List A) → a ++ ((b ++ c) ++ d) ≡ (a ++ b) ++ (c ++ d)
regrouped a b c d = ap (λ xs. a ++ xs) (append_assoc b c d) ∙ sym (append_assoc a b (c ++ d))

pub handed_on : {A : Type 0} (a b c d : List A) → a ++ ((b ++ c) ++ d) ≡ a ++ (b ++ (c ++ d))
handed_on a b c d = ap (λ xs. a ++ xs) (append_assoc b c d)

pub further : {A : Type 0} (at n : ℕ) (front part : List A) → length front ≡ at → length part ≡ n → length (front ++ part) ≡ at + n
further at n front part start long = omega (arith, length-append front part, start, long)
