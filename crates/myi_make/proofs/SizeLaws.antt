-- How long the rows and their blocks are.
use Rattle.std.proofs.Common.{◌≡◌, ◌<◌, ◌≤◌, ◌++◌, ◌∷◌, ◌+◌, ◌^◌, ◌%◌, ◌/◌, ◌==◌, ℕ, zero, suc, Bool, true, false, List, [], length, ap, sym, refl, arith, subst}
use Rattle.std.specs.Prelude.{◌&&◌}
use Rattle.std.proofs.lemmas.Bool.{and_from, eq-eqb, le-leb, lt-ltb}
use Rattle.std.proofs.lemmas.List.{length-append}
use Rattle.myi_base.specs.Numbers.{low_num_bytes}
use Rattle.myi_base.proofs.CallerLemmas.{length-low_num_bytes}
use Rattle.myi_defs.specs.declared.types.FieldKind.TheVariants.{Blob}
use Rattle.myi_pack.specs.Packed.{Values}
use Rattle.myi_pack.specs.Spelling.{spelling, fits, field_bytes}
use Rattle.myi_make.specs.MadeTable.{defs, letters, blob_bytes, row_of}

length-letters : (x j k : ℕ) → length (letters x j k) ≡ k
length-letters x j zero = refl
length-letters x j (suc k) = ap suc (length-letters x (j + 1) k)

length-blob : (x j k : ℕ) → length (blob_bytes x j k) ≡ k
length-blob x j zero = refl
length-blob x j (suc k) = ap suc (length-blob x (j + 1) k)

both : {a b : Bool} → a ≡ true → b ≡ true → (a && b) ≡ true
both {a} {b} p q = and_from a b p q

-- a row of these parts
abbrev pub row_with : List ℕ → List ℕ → List ℕ → Values
row_with n t b = (254 ∷ []) ∷ n ∷ t ∷ b ∷ []

blob_part : (b : List ℕ) → length (field_bytes Blob 10 b) ≤ length b + 2
blob_part b = by (length b == 0) refl
  where
    by : (o : Bool) → (length b == 0) ≡ o → length (field_bytes Blob 10 b) ≤ length b + 2
    by true e = rw e (omega arith)
    by false e = rw e (omega (arith, length-append (low_num_bytes 2 (length b)) b, length-low_num_bytes 2 (length b)))

spelled : (n t b : List ℕ) → length (spelling defs (row_with n t b)) ≡ length n + length t + length (field_bytes Blob 10 b) + 3
unfolding spelling defs
spelled n t b = omega (arith, length-append n ((length t ∷ t) ++ (field_bytes Blob 10 b ++ [])), length-append t (field_bytes Blob 10 b ++ []), length-append (field_bytes Blob 10 b) [])

short : (n t b : List ℕ) → length n ≡ 4 → length t ≤ 40 → length b ≤ 199 → length (spelling defs (row_with n t b)) ≤ 248
short n t b four few some = omega (arith, spelled n t b, blob_part b, four, few, some)

fits_with : (n t b : List ℕ) → length n ≡ 4 → length t ≤ 40 → length b ≤ 199 → length (spelling defs (row_with n t b)) ≤ 248 → fits defs (row_with n t b) ≡ true
unfolding fits defs
fits_with n t b four few some less =
    both (both (eq-eqb (length n) 4 four) (both (both (le-leb (length t + 1) 41 (omega (arith, few))) (lt-ltb (length t) 65536 (omega (arith, few)))) (both (lt-ltb (length b) 65536 (omega (arith, some))) refl))) (lt-ltb (length (spelling defs (row_with n t b))) (2 ^ 32) (omega (arith, less)))

pub row_short : (i x : ℕ) → length (spelling defs (row_of i x)) ≤ 248
unfolding row_of
row_short i x = short (low_num_bytes 4 i) _ _ (length-low_num_bytes 4 i) (subst (λ k. k ≤ 40) (sym (length-letters x 0 (x / 2 ^ 32 % 41))) (omega arith)) (subst (λ k. k ≤ 199) (sym (length-blob x 0 (x / 2 ^ 40 % 200))) (omega arith))

pub row_some : (i x : ℕ) → 0 < length (spelling defs (row_of i x))
unfolding row_of
row_some i x = omega (arith, spelled (low_num_bytes 4 i) (letters x 0 (x / 2 ^ 32 % 41)) (blob_bytes x 0 (x / 2 ^ 40 % 200)))

pub row_fits : (i x : ℕ) → fits defs (row_of i x) ≡ true
unfolding row_of
row_fits i x = fits_with (low_num_bytes 4 i) _ _ (length-low_num_bytes 4 i) (subst (λ k. k ≤ 40) (sym (length-letters x 0 (x / 2 ^ 32 % 41))) (omega arith)) (subst (λ k. k ≤ 199) (sym (length-blob x 0 (x / 2 ^ 40 % 200))) (omega arith)) (row_short i x)
