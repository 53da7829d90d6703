-- Ranges that are apart have no more places than the file.
use Rattle.std.proofs.Common.{◌≡◌, ℕ, zero, suc, ◌+◌, ◌-◌, ◌*◌, ◌/◌, ◌<◌, ◌≤◌, min, Bool, true, false, List, [], ◌∷◌, ◌++◌, length, Option, Some, None, refl, ap, arith, ◌⊎◌, inl, inr}
use Rattle.std.specs.Prelude.{◌&&◌, ◌||◌, nat_le}
use Rattle.std.specs.List.{AllByRecursion}
use Rattle.std.proofs.lemmas.Bool.{leb-true, cases_lt}
use Rattle.myi_base.specs.Ranges.{Range, are_apart, is_apart}
use Rattle.myi_frames.specs.Block.{Block}
use Rattle.myi_chain.specs.Chain.{Reading, IsReading, ranges, AreApart, IsChain, AreLinked, IsTail}

-- how many places below n the ranges have
abbrev pub covered : ℕ → List Range → ℕ
covered n [] = 0
covered n (r ∷ rs) = (min r.1 n - min r.0 n) + covered n rs

abbrev Covers : ℕ → Range → Type 0
Covers n r = (r.0 ≤ n) × (n < r.1)

abbrev HasCover : ℕ → List Range → Type 0
HasCover n [] = ⊥
HasCover n (r ∷ u) = Covers n r ⊎ HasCover n u

both : (a b : Bool) → (a && b) ≡ true → (a ≡ true) × (b ≡ true)
both true b e = (refl, e)
both false b e = absurd cc

one_of : (a b : Bool) → (a || b) ≡ true → (a ≡ true) ⊎ (b ≡ true)
one_of true b e = inl refl
one_of false b e = inr e

never_both : (n : ℕ) (r s : Range) → are_apart r s ≡ true → Covers n s → Covers n r → ⊥
never_both n r s a c d = elim (one_of (nat_le r.1 s.0) (nat_le s.1 r.0) a) [
  | inl e ↦ let le = leb-true _ _ e in omega (arith, c.0, c.1, d.0, d.1)
  | inr e ↦ let le = leb-true _ _ e in omega (arith, c.0, c.1, d.0, d.1)
]

not_covered : (n : ℕ) (r : Range) (u : List Range) → is_apart r u ≡ true → HasCover n u → Covers n r → ⊥
not_covered n r [] a h c = h
not_covered n r (s ∷ u) a (inl h) c = never_both n r s (both (are_apart r s) (is_apart r u) a).0 h c
not_covered n r (s ∷ u) a (inr h) c = not_covered n r u (both (are_apart r s) (is_apart r u) a).1 h c

cover_left : (n : ℕ) (u t : List Range) → HasCover n u → HasCover n (u ++ t)
cover_left n [] t h = absurd h
cover_left n (r ∷ u) t (inl h) = inl h
cover_left n (r ∷ u) t (inr h) = inr (cover_left n u t h)

cover_last : (n : ℕ) (u : List Range) (r : Range) → Covers n r → HasCover n (u ++ r ∷ [])
cover_last n [] r h = inl h
cover_last n (s ∷ u) r h = inr (cover_last n u r h)

covers_or : (n : ℕ) (r : Range) → Covers n r ⊎ (min r.1 (suc n) - min r.0 (suc n) ≤ min r.1 n - min r.0 n)
covers_or n r = elim (cases_lt n r.1) [
  | inl lt ↦ elim (cases_lt n r.0) [ inl a ↦ inr (omega arith) | inr b ↦ inl (b, lt) ]
  | inr le ↦ inr (omega arith)
]

no_more : (n : ℕ) (u rs : List Range) → AreApart u rs → HasCover n u → covered (suc n) rs ≤ covered n rs
no_more n u [] a h = omega arith
no_more n u (r ∷ rs) a h =
    let ih = no_more n (u ++ r ∷ []) rs a.1 (cover_left n u (r ∷ []) h) in
    elim (covers_or n r) [ inl c ↦ absurd (not_covered n r u a.0 h c) | inr le ↦ omega (arith, ih, le) ]

one_more : (n : ℕ) (u rs : List Range) → AreApart u rs → covered (suc n) rs ≤ covered n rs + 1
one_more n u [] a = omega arith
one_more n u (r ∷ rs) a =
    let ih = one_more n (u ++ r ∷ []) rs a.1 in
    elim (covers_or n r) [
      | inl c ↦ let rest = no_more n (u ++ r ∷ []) rs a.1 (cover_last n u r c) in omega (arith, rest, c.0, c.1)
      | inr le ↦ omega (arith, ih, le)
    ]

nothing : (rs : List Range) → covered 0 rs ≡ 0
nothing [] = refl
nothing (r ∷ rs) = omega (arith, nothing rs)

pub covered_below : (n : ℕ) (u rs : List Range) → AreApart u rs → covered n rs ≤ n
covered_below zero u rs a = omega (arith, nothing rs)
covered_below (suc n) u rs a = omega (arith, covered_below n u rs a, one_more n u rs a)

-- ranges of blocks
abbrev pub IsBlock : ℕ → Range → Type 0
IsBlock len r = (r.0 + 20 ≤ r.1) × (r.1 ≤ len)

twenty_each : (len : ℕ) (rs : List Range) → AllByRecursion (IsBlock len) rs → 20 * length rs ≤ covered len rs
twenty_each len [] a = omega arith
twenty_each len (r ∷ rs) a = omega (arith, twenty_each len rs a.1, a.0.0, a.0.1)

tail_blocks : (read : Reading) (len : ℕ) (stands : IsReading read len) (n : Option ℕ) (bs : List Block) → IsTail read n bs → AllByRecursion (IsBlock len) (ranges bs)
tail_blocks read len stands None bs t = absurd t
tail_blocks read len stands (Some p) [] t = absurd t
tail_blocks read len stands (Some p) (b ∷ []) t = let s = stands p b t.0 in ((omega (arith, s.least), omega (arith, s.at, s.inside)), tt)
tail_blocks read len stands (Some p) (b ∷ c ∷ bs) t = let s = stands p b t.0 in ((omega (arith, s.least), omega (arith, s.at, s.inside)), tail_blocks read len stands b.next (c ∷ bs) t.2)

pub chain_blocks : (read : Reading) (len : ℕ) (stands : IsReading read len) (p : ℕ) (bs : List Block) → AreLinked read p bs → AllByRecursion (IsBlock len) (ranges bs)
chain_blocks read len stands p [] t = absurd t
chain_blocks read len stands p (b ∷ []) t = let s = stands p b t.0 in ((omega (arith, s.least), omega (arith, s.at, s.inside)), tt)
chain_blocks read len stands p (b ∷ c ∷ bs) t = let s = stands p b t.0 in ((omega (arith, s.least), omega (arith, s.at, s.inside)), tail_blocks read len stands b.next (c ∷ bs) t.2)

length-ranges : (bs : List Block) → length (ranges bs) ≡ length bs
length-ranges [] = refl
length-ranges (b ∷ bs) = ap suc (length-ranges bs)

-- no chain has more blocks than a twentieth of the file's length
pub chain_short : (read : Reading) (len : ℕ) (stands : IsReading read len) (p : ℕ) (used : List Range) (bs : List Block) → IsChain read p used bs → length bs ≤ len / 20
chain_short read len stands p used bs t =
    omega (arith, twenty_each len (ranges bs) (chain_blocks read len stands p bs t.linked), covered_below len used (ranges bs) t.apart, length-ranges bs)
