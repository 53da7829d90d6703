-- The numbers of all keys, one after the other.
use Rattle.std.proofs.Common.{◌≡◌, ℕ, zero, suc, ◌+◌, ◌<◌, ◌≤◌, List, [], ◌∷◌, ◌++◌, length, get_or, drop, refl, sym, ap, ◌∙◌, arith, append_assoc}
use Rattle.std.proofs.lemmas.List.{append-nil}
use Rattle.myi_order.specs.declared.key_parts.KeyParts.{KeyParts}
use Rattle.myi_order.specs.Numbers.{all_per}

parts_next : (parts : List KeyParts) (i : ℕ) (d : KeyParts) → i < length parts → all_per (drop i parts) ≡ (get_or parts i d).per ++ all_per (drop (i + 1) parts)
parts_next [] i d few = absurd (omega arith)
parts_next (p ∷ parts) zero d few = refl
parts_next (p ∷ parts) (suc i) d few = let e : suc i + 1 ≡ suc (i + 1) = omega arith in rw e (parts_next parts i d (omega arith))

parts_end : (parts : List KeyParts) (i : ℕ) → length parts ≤ i → all_per (drop i parts) ≡ []
parts_end [] zero end = refl
parts_end [] (suc i) end = refl
parts_end (p ∷ parts) zero end = absurd (omega arith)
parts_end (p ∷ parts) (suc i) end = parts_end parts i (omega arith)

-- those of one key more, what is left being the rest
pub part_appended : (parts : List KeyParts) (whole old new per : List ℕ) (i : ℕ) (d : KeyParts) → i < length parts → per ≡ (get_or parts i d).per → new ≡ old ++ per → old ++ all_per (drop i parts) ≡ whole → new ++ all_per (drop (i + 1) parts) ≡ whole
part_appended parts whole old new per i d few is made so_far =
    ap (λ xs. xs ++ all_per (drop (i + 1) parts)) (made ∙ ap (λ xs. old ++ xs) is)
    ∙ append_assoc old (get_or parts i d).per (all_per (drop (i + 1) parts))
    ∙ ap (λ xs. old ++ xs) (sym (parts_next parts i d few)) ∙ so_far

pub parts_appended : (parts : List KeyParts) (old : List ℕ) (i : ℕ) → length parts ≤ i → old ++ all_per (drop i parts) ≡ all_per parts → old ≡ all_per parts
parts_appended parts old i end so_far = sym (append-nil old) ∙ ap (λ xs. old ++ xs) (sym (parts_end parts i end)) ∙ so_far
