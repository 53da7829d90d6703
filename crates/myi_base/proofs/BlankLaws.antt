-- What is left of a text without the blanks at its end.
use Rattle.std.proofs.Common.{◌≡◌, ◌≢◌, ℕ, suc, ◌+◌, ◌-◌, ◌<◌, List, [], ◌∷◌, ◌++◌, length, take, drop, get_or, reverse, refl, sym, ap, ◌∙◌, arith, replicate}
use Rattle.std.specs.List.{suffix_len, prefix_len}
use Rattle.std.proofs.lemmas.Bool.{eqb-true, eqb-false}
use Rattle.std.proofs.lemmas.List.{length-reverse, length-take-le, length-drop, take-append-drop, get_or-drop, get_or-take, get_or-reverse}
use Rattle.std.proofs.lemmas.List.Sums.{prefix_len_passes, prefix_len_stops, suffix_len-le-length}
use Rattle.myi_base.specs.Blanks.{is_blank, without_blanks}

pub blanks_short : (bytes : List ℕ) → length (without_blanks bytes) ≡ length bytes - suffix_len is_blank bytes
blanks_short bytes = length-take-le (length bytes - suffix_len is_blank bytes) bytes (omega arith)

all_same : (v : ℕ) (xs : List ℕ) → ((i : ℕ) → i < length xs → get_or xs i 0 ≡ v) → xs ≡ replicate (length xs) v
all_same v [] same = refl
all_same v (x ∷ xs) same =
    let first : x ≡ v = same 0 (omega arith) in
    let rest : xs ≡ replicate (length xs) v = all_same v xs (λ i inside. same (suc i) (omega arith)) in
    ap (λ (b : ℕ). b ∷ xs) first ∙ ap (λ (ys : List ℕ). v ∷ ys) rest

-- each byte of the trailing ones is a blank
blank_at : (bytes : List ℕ) (i : ℕ) → i < suffix_len is_blank bytes → get_or bytes (length bytes - suffix_len is_blank bytes + i) 0 ≡ 0x20
blank_at bytes i inside =
    let s : ℕ = suffix_len is_blank bytes in
    let k : ℕ = s - 1 - i in
    let most = suffix_len-le-length is_blank bytes in
    let before : k < prefix_len is_blank (reverse bytes) = omega arith in
    let passes = prefix_len_passes is_blank (reverse bytes) k 0 before in
    let there : length bytes - 1 - k ≡ length bytes - s + i = omega arith in
    let turned = get_or-reverse bytes k 0 (omega arith) in
    ap (λ (j : ℕ). get_or bytes j 0) (sym there) ∙ sym turned ∙ eqb-true _ _ passes

pub blanks_only : (bytes : List ℕ) → bytes ≡ without_blanks bytes ++ replicate (length bytes - length (without_blanks bytes)) 0x20
blanks_only bytes =
    let kept : ℕ = length bytes - suffix_len is_blank bytes in
    let most = suffix_len-le-length is_blank bytes in
    let left : length (drop kept bytes) ≡ length bytes - length (without_blanks bytes) = omega (arith, length-drop kept bytes, blanks_short bytes) in
    let blank : drop kept bytes ≡ replicate (length (drop kept bytes)) 0x20 =
    all_same 0x20 (drop kept bytes) (λ i inside. get_or-drop kept bytes i 0 ∙ blank_at bytes i (omega (arith, length-drop kept bytes))) in
    sym (take-append-drop kept bytes) ∙ ap (λ (xs : List ℕ). take kept bytes ++ xs) (blank ∙ ap (λ (n : ℕ). replicate n 0x20) left)

pub no_blank_left : (bytes : List ℕ) → 0 < length (without_blanks bytes) → get_or (without_blanks bytes) (length (without_blanks bytes) - 1) 0 ≢ 0x20
no_blank_left bytes some same =
    let s : ℕ = suffix_len is_blank bytes in
    let kept : ℕ = length bytes - s in
    let long = blanks_short bytes in
    let inside : prefix_len is_blank (reverse bytes) < length (reverse bytes) = omega (arith, length-reverse bytes) in
    let stops = prefix_len_stops is_blank (reverse bytes) 0 inside in
    let turned = get_or-reverse bytes s 0 (omega arith) in
    let there : length bytes - 1 - s ≡ kept - 1 = omega arith in
    let last : get_or bytes (kept - 1) 0 ≡ 0x20 = sym (get_or-take kept bytes (kept - 1) 0 (omega arith)) ∙ ap (λ (n : ℕ). get_or (without_blanks bytes) (n - 1) 0) (sym long) ∙ same in
    eqb-false _ _ stops (turned ∙ ap (λ (j : ℕ). get_or bytes j 0) there ∙ last)
