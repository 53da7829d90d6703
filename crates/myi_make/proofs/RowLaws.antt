-- The letters and the bytes of a row, one more at a time.
use Rattle.std.proofs.Common.{◌≡◌, ◌<◌, ◌++◌, ◌∷◌, ◌+◌, ◌-◌, ◌∙◌, ℕ, suc, List, [], ap, sym, arith}
use Rattle.std.proofs.lemmas.List.{append_assoc}
use Rattle.myi_make.specs.MadeTable.{letter, letters, blob_byte, blob_bytes}

one_less : (n j : ℕ) → j < n → n - j ≡ suc (n - (j + 1))
one_less n j less = omega (arith, less)

pub letter_more : (x j n b : ℕ) (old new whole : List ℕ) → j < n → b ≡ letter x j → new ≡ old ++ b ∷ [] → old ++ letters x j (n - j) ≡ whole → new ++ letters x (j + 1) (n - (j + 1)) ≡ whole
letter_more x j n b old new whole less is pushed was =
    ap (λ l. l ++ letters x (j + 1) (n - (j + 1))) (pushed ∙ ap (λ k. old ++ k ∷ []) is)
    ∙ append_assoc old (letter x j ∷ []) (letters x (j + 1) (n - (j + 1)))
    ∙ ap (λ k. old ++ letters x j k) (sym (one_less n j less)) ∙ was

pub byte_more : (x j n b : ℕ) (old new whole : List ℕ) → j < n → b ≡ blob_byte x j → new ≡ old ++ b ∷ [] → old ++ blob_bytes x j (n - j) ≡ whole → new ++ blob_bytes x (j + 1) (n - (j + 1)) ≡ whole
byte_more x j n b old new whole less is pushed was =
    ap (λ l. l ++ blob_bytes x (j + 1) (n - (j + 1))) (pushed ∙ ap (λ k. old ++ k ∷ []) is)
    ∙ append_assoc old (blob_byte x j ∷ []) (blob_bytes x (j + 1) (n - (j + 1)))
    ∙ ap (λ k. old ++ blob_bytes x j k) (sym (one_less n j less)) ∙ was
