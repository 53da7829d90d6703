-- No two keys have one code.
use Rattle.std.proofs.Common.{◌≡◌, ℕ, ◌+◌, ◌/◌, ◌%◌, List, [], ◌∷◌, ◌++◌, length, refl, sym, ap, ◌∙◌, append_assoc, arith, inl, inr}
use Rattle.std.proofs.lemmas.Bool.{cases_lt, le-ltb, lt-ltb}
use Rattle.myi_keys.specs.declared.values.KeySeg.{KeySeg}
use Rattle.myi_keys.specs.declared.values.KeySeg.TheVariants.{Absent, Weights}
use Rattle.myi_keys.specs.Codes.{number_code, seg_code, key_code}

heads : (m n : ℕ) (x y : List ℕ) → m ∷ x ≡ n ∷ y → (m ≡ n) × (x ≡ y)
heads m n x y e = (cc, cc)

-- no number's spelling begins another's
pub one_number : (m n : ℕ) (x y : List ℕ) → number_code m ++ x ≡ number_code n ++ y → (m ≡ n) × (x ≡ y)
one_number m n x y e =
    elim (cases_lt m 255) [
      | inl few ↦ elim (cases_lt n 255) [
        | inl small ↦ let k = rw (lt-ltb m 255 few, lt-ltb n 255 small) at e in heads m n x y k
        | inr large ↦ let k = rw (lt-ltb m 255 few, le-ltb n 255 large) at e in absurd (omega (arith, (heads m 255 x (n / 256 ∷ n % 256 ∷ y) k).0))
      ]
      | inr many ↦ elim (cases_lt n 255) [
        | inl small ↦ let k = rw (le-ltb m 255 many, lt-ltb n 255 small) at e in absurd (omega (arith, (heads 255 n (m / 256 ∷ m % 256 ∷ x) y k).0))
        | inr large ↦
            let k = rw (le-ltb m 255 many, le-ltb n 255 large) at e in
            let first = heads _ _ _ _ k in
            let high = heads _ _ _ _ first.1 in
            let low = heads _ _ _ _ high.1 in
            (omega (arith, high.0, low.0), low.1)
      ]
    ]

same_rest : (v w x y : List ℕ) → length v ≡ length w → v ++ x ≡ w ++ y → (v ≡ w) × (x ≡ y)
same_rest [] [] x y long e = (refl, e)
same_rest [] (b ∷ w) x y long e = absurd (omega arith)
same_rest (a ∷ v) [] x y long e = absurd (omega arith)
same_rest (a ∷ v) (b ∷ w) x y long e =
    let first = heads _ _ _ _ e in
    let rest = same_rest v w x y (omega arith) first.1 in
    (cc (first.0, rest.0), rest.1)

-- no segment's code begins another's
pub one_seg : (s t : KeySeg) (x y : List ℕ) → seg_code s ++ x ≡ seg_code t ++ y → (s ≡ t) × (x ≡ y)
one_seg Absent Absent x y e = (refl, (heads 0 0 x y e).1)
one_seg Absent (Weights w) x y e = absurd (omega (arith, (one_number 0 (length w + 1) x (w ++ y) (e ∙ append_assoc (number_code (length w + 1)) w y)).0))
one_seg (Weights v) Absent x y e = absurd (omega (arith, (one_number 0 (length v + 1) y (v ++ x) (sym e ∙ append_assoc (number_code (length v + 1)) v x)).0))
one_seg (Weights v) (Weights w) x y e =
    let number = one_number (length v + 1) (length w + 1) (v ++ x) (w ++ y) (sym (append_assoc (number_code (length v + 1)) v x) ∙ e ∙ append_assoc (number_code (length w + 1)) w y) in
    let rest = same_rest v w x y (omega arith) number.1 in
    (ap (λ (u : List ℕ). Weights u) rest.0, rest.1)

no_empty : (s : KeySeg) (x : List ℕ) → [] ≡ seg_code s ++ x → ⊥
no_empty Absent x e = cc
no_empty (Weights w) x e = elim (cases_lt (length w + 1) 255) [
  | inl small ↦ let k = rw (lt-ltb _ 255 small) at e in absurd cc
  | inr large ↦ let k = rw (le-ltb _ 255 large) at e in absurd cc
]

pub one_key : (k l : List KeySeg) → key_code k ≡ key_code l → k ≡ l
one_key [] [] e = refl
one_key [] (t ∷ l) e = absurd (no_empty t (key_code l) e)
one_key (s ∷ k) [] e = absurd (no_empty s (key_code k) (sym e))
one_key (s ∷ k) (t ∷ l) e =
    let first = one_seg s t (key_code k) (key_code l) e in
    cc (first.0, one_key k l first.1)
