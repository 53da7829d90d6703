-- Row pointers of which those at the front are the numbers of their own rows.
use Rattle.std.proofs.Common.{◌≡◌, ℕ, zero, suc, ◌+◌, ◌-◌, ◌<◌, ◌≤◌, List, [], ◌∷◌, ◌++◌, length, get_or, refl, sym, ap, ◌∙◌, arith, append_assoc, length-append}
use Rattle.std.specs.List.{range_with_len}
use Rattle.std.proofs.lemmas.List.{get_or_append_left, get_or-append_right, append-nil}
use Rattle.std.proofs.lemmas.List.FromFn.{length-range_with_len, get_or-range_with_len}

range_more : (a n : ℕ) → range_with_len a (n + 1) ≡ range_with_len a n ++ (a + n) ∷ []
range_more a zero = let e : a ≡ a + 0 = omega arith in ap (λ x. x ∷ []) e
range_more a (suc n) =
    let next : suc n + 1 ≡ suc (n + 1) = omega arith in
    let same : a + 1 + n ≡ a + suc n = omega arith in
    ap (λ k. range_with_len a k) next ∙ ap (λ xs. a ∷ xs) (range_more (a + 1) n) ∙ ap (λ x. a ∷ (range_with_len (a + 1) n ++ x ∷ [])) same

pub one_counted : (same pointer : ℕ) (others all : List ℕ) → range_with_len 0 same ++ others ≡ all → length others ≡ 0 → pointer ≡ same → range_with_len 0 (same + 1) ++ others ≡ all ++ pointer ∷ []
one_counted same pointer (x ∷ others) all is none counted = absurd (omega (arith, none))
one_counted same pointer [] all is none counted =
    let here : 0 + same ≡ pointer = omega (arith, counted) in
    append-nil (range_with_len 0 (same + 1)) ∙ range_more 0 same ∙ ap (λ x. range_with_len 0 same ++ x ∷ []) here ∙ ap (λ xs. xs ++ pointer ∷ []) (sym (append-nil (range_with_len 0 same)) ∙ is)

pub run_long : (same : ℕ) (others all : List ℕ) → range_with_len 0 same ++ others ≡ all → same + length others ≡ length all
run_long same others all is = omega (arith, length-append (range_with_len 0 same) others, length-range_with_len 0 same, ap (λ (xs : List ℕ). length xs) is)

pub counted_at : (same number : ℕ) (others all : List ℕ) → range_with_len 0 same ++ others ≡ all → number < same → number ≡ get_or all number 0
counted_at same number others all is inside =
    let long : number < length (range_with_len 0 same) = omega (arith, length-range_with_len 0 same) in
    let here : number ≡ 0 + number = omega arith in
    here ∙ sym (get_or-range_with_len 0 same number 0 inside) ∙ sym (get_or_append_left (range_with_len 0 same) others 0 number long) ∙ ap (λ xs. get_or xs number 0) is

pub other_at : (same number : ℕ) (others all : List ℕ) → range_with_len 0 same ++ others ≡ all → same ≤ number → get_or others (number - same) 0 ≡ get_or all number 0
other_at same number others all is behind =
    sym (get_or-append_right (range_with_len 0 same) others same number 0 (length-range_with_len 0 same) behind) ∙ ap (λ xs. get_or xs number 0) is
