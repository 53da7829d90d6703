-- Two lists of weights are compared one by one.
use Rattle.std.proofs.Common.{◌≡◌, ℕ, zero, suc, ◌<◌, List, [], ◌∷◌, length, drop, refl, sym, ap, ◌∙◌, true, false, arith}
use Rattle.std.specs.Prelude.{slice_index}
use Rattle.std.specs.Ordering.{nat_cmp, ordering_then, is_ne}
use Rattle.std.specs.Cmp.Lexicographic.{slice_cmp}
use Rattle.std.specs.declared.cmp.Ordering.{Ordering}
use Rattle.std.specs.declared.cmp.Ordering.TheVariants.{Less, Equal, Greater}

-- the order of what is left from a place on
abbrev pub left_cmp : ℕ → List ℕ → List ℕ → Ordering
left_cmp i v w = slice_cmp nat_cmp (drop i v) (drop i w)

begun : (i : ℕ) (v w : List ℕ) → i < length v → i < length w → left_cmp i v w ≡ ordering_then (nat_cmp (slice_index v i) (slice_index w i)) (left_cmp (suc i) v w)
begun i [] w some other = absurd (omega arith)
begun i (a ∷ v) [] some other = absurd (omega arith)
begun zero (a ∷ v) (b ∷ w) some other = refl
begun (suc i) (a ∷ v) (b ∷ w) some other = begun i v w (omega arith) (omega arith)

unequal : (o rest : Ordering) → is_ne o ≡ true → ordering_then o rest ≡ o
unequal Less rest ne = refl
unequal Equal rest ne = absurd cc
unequal Greater rest ne = refl

equal : (o rest : Ordering) → is_ne o ≡ false → ordering_then o rest ≡ rest
equal Less rest ne = absurd cc
equal Equal rest ne = refl
equal Greater rest ne = absurd cc

-- a weight that differs decides
pub weight_decides : (i : ℕ) (v w : List ℕ) (o : Ordering) → i < length v → i < length w → o ≡ nat_cmp (slice_index v i) (slice_index w i) → is_ne o ≡ true → o ≡ left_cmp i v w
weight_decides i v w o some other is ne = sym (unequal o (left_cmp (suc i) v w) ne) ∙ ap (λ x. ordering_then x (left_cmp (suc i) v w)) is ∙ sym (begun i v w some other)

-- and those behind one that does not
pub weight_passes : (i : ℕ) (v w : List ℕ) (o : Ordering) → i < length v → i < length w → o ≡ nat_cmp (slice_index v i) (slice_index w i) → is_ne o ≡ false → left_cmp (suc i) v w ≡ left_cmp i v w
weight_passes i v w o some other is ne = sym (equal o (left_cmp (suc i) v w) ne) ∙ ap (λ x. ordering_then x (left_cmp (suc i) v w)) is ∙ sym (begun i v w some other)
