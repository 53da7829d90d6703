-- Counting bytes says the same as being apart, inside and covering.
use Rattle.std.proofs.Common.{◌≡◌, ℕ, zero, suc, ◌+◌, ◌<◌, ◌≤◌, ◌⊎◌, inl, inr, min, max, List, [], ◌∷◌, ◌++◌, refl, ap, ◌∙◌, arith}
use Rattle.std.specs.List.{AllByRecursion}
use Rattle.std.proofs.lemmas.Bool.{cases_lt}
use Rattle.myi_dellist.specs.Areas.{Area, below, bytes_below, Tile, IsApart, AreApart, AreInside, Holds, HaveBytes}

pub below-append : (p : ℕ) (xs ys : List Area) → bytes_below p (xs ++ ys) ≡ bytes_below p xs + bytes_below p ys
below-append p [] ys = omega arith
below-append p (x ∷ xs) ys = omega (arith, below-append p xs ys)

pub rising : (p q : ℕ) (areas : List Area) → p ≤ q → bytes_below p areas ≤ bytes_below q areas
rising p q [] le = omega arith
rising p q (a ∷ areas) le = omega (arith, rising p q areas le)

none_yet : (areas : List Area) → bytes_below 0 areas ≡ 0
none_yet [] = refl
none_yet (a ∷ areas) = omega (arith, none_yet areas)

-- ---- from areas to the count

-- where one holds the byte, those apart from it do not
untouched : (p : ℕ) (a : Area) (areas : List Area) → a.at ≤ p → p < a.at + a.size → AllByRecursion (IsApart a) areas → bytes_below (p + 1) areas ≡ bytes_below p areas
untouched p a [] le lt apart = refl
untouched p a (b ∷ areas) le lt apart = omega (arith, apart.0, untouched p a areas le lt apart.1)

pub one_more : (p : ℕ) (areas : List Area) → AreApart areas → Holds p areas → bytes_below (p + 1) areas ≡ bytes_below p areas + 1
one_more p [] apart h = absurd h
one_more p (a ∷ areas) apart (inl h) = let r = untouched p a areas h.0 h.1 apart.0 in let h0 = h.0 in let h1 = h.1 in omega arith
one_more p (a ∷ areas) apart (inr h) = by_side (cases_lt p a.at) (cases_lt p (a.at + a.size)) (one_more p areas apart.1 h)
  where
    by_side : (p < a.at) ⊎ (a.at ≤ p) → (p < a.at + a.size) ⊎ (a.at + a.size ≤ p) → bytes_below (p + 1) areas ≡ bytes_below p areas + 1 → below (p + 1) a + bytes_below (p + 1) areas ≡ below p a + bytes_below p areas + 1
    by_side (inl x) y ih = omega arith
    by_side (inr x) (inr y) ih = omega arith
    by_side (inr x) (inl y) ih = absurd (omega (arith, untouched p a areas x y apart.0))

pub no_more : (end p : ℕ) (areas : List Area) → AreInside end areas → end ≤ p → bytes_below p areas ≡ bytes_below end areas
no_more end p [] inside le = refl
no_more end p (a ∷ areas) inside le = omega (arith, inside.0, no_more end p areas inside.1 le)

up_to : (end p : ℕ) (areas : List Area) → AreApart areas → ((q : ℕ) → q < end → Holds q areas) → p ≤ end → bytes_below p areas ≡ p
up_to end zero areas apart h le = none_yet areas
up_to end (suc p) areas apart h le =
    let ih = up_to end p areas apart h (omega arith) in
    let more = one_more p areas apart (h p (omega arith)) in
    let e : suc p ≡ p + 1 = omega arith in
    ap (λ (q : ℕ). bytes_below q areas) e ∙ omega (arith, ih, more)

pub covered-tile : (end : ℕ) (areas : List Area) → AreApart areas → AreInside end areas → ((p : ℕ) → p < end → Holds p areas) → Tile end areas
covered-tile end areas apart inside h p = by_side (cases_lt p end)
  where
    by_side : (p < end) ⊎ (end ≤ p) → bytes_below p areas ≡ min end p
    by_side (inl lt) = omega (arith, up_to end p areas apart h (omega arith))
    by_side (inr le) = omega (arith, no_more end p areas inside le, up_to end end areas apart h (omega arith))

-- ---- and back

-- no byte counts twice
abbrev pub Once : List Area → Type 0
Once areas = (p : ℕ) → bytes_below (p + 1) areas ≤ bytes_below p areas + 1

once-rest : (a : Area) (areas : List Area) → Once (a ∷ areas) → Once areas
once-rest a areas once p = omega (arith, once p, rising p (p + 1) areas (omega arith))

apart_from : (a : Area) (areas : List Area) → 0 < a.size → HaveBytes areas → Once (a ∷ areas) → AllByRecursion (IsApart a) areas
apart_from a [] some all once = tt
apart_from a (b ∷ areas) some all once = (
  by_place (cases_lt a.at (b.at + b.size)) (cases_lt b.at (a.at + a.size)),
  apart_from a areas some all.1 (λ p. omega (arith, once p, rising p (p + 1) areas (omega arith))),
)
  where
    by_place : (a.at < b.at + b.size) ⊎ (b.at + b.size ≤ a.at) → (b.at < a.at + a.size) ⊎ (a.at + a.size ≤ b.at) → IsApart a b
    by_place (inr far) other = inr far
    by_place (inl near) (inr far) = inl far
    by_place (inl near) (inl close) = absurd (omega (arith, once (max a.at b.at), rising (max a.at b.at) (max a.at b.at + 1) areas (omega arith), all.0))

pub once-apart : (areas : List Area) → HaveBytes areas → Once areas → AreApart areas
once-apart [] all once = tt
once-apart (a ∷ areas) all once = (apart_from a areas all.0 all.1 once, once-apart areas all.1 (once-rest a areas once))

pub tile-once : (end : ℕ) (areas : List Area) → Tile end areas → Once areas
tile-once end areas t p = omega (arith, t p, t (p + 1))

pub tile-apart : (end : ℕ) (areas : List Area) → HaveBytes areas → Tile end areas → AreApart areas
tile-apart end areas some t = once-apart areas some (tile-once end areas t)

-- no byte stands behind the end
abbrev pub NoneBehind : ℕ → List Area → Type 0
NoneBehind end areas = (p : ℕ) → end ≤ p → bytes_below p areas ≤ bytes_below end areas

pub inside_by : (end : ℕ) (areas : List Area) → HaveBytes areas → NoneBehind end areas → AreInside end areas
inside_by end [] some none = tt
inside_by end (a ∷ areas) some none = (
  by_end (cases_lt end (a.at + a.size)),
  inside_by end areas some.1 (λ p le. omega (arith, none p le)),
)
  where
    by_end : (end < a.at + a.size) ⊎ (a.at + a.size ≤ end) → a.at + a.size ≤ end
    by_end (inr le) = le
    by_end (inl far) = absurd (omega (arith, none (a.at + a.size) (omega arith), rising end (a.at + a.size) areas (omega arith), some.0))

pub tile-inside : (end : ℕ) (areas : List Area) → HaveBytes areas → Tile end areas → AreInside end areas
tile-inside end areas some t = inside_by end areas some (λ p le. omega (arith, t p, t end))

pub held_or : (p : ℕ) (areas : List Area) → Holds p areas ⊎ (bytes_below (p + 1) areas ≡ bytes_below p areas)
held_or p [] = inr refl
held_or p (a ∷ areas) = by_side (cases_lt p a.at) (cases_lt p (a.at + a.size)) (held_or p areas)
  where
    by_side : (p < a.at) ⊎ (a.at ≤ p) → (p < a.at + a.size) ⊎ (a.at + a.size ≤ p) → Holds p areas ⊎ (bytes_below (p + 1) areas ≡ bytes_below p areas) → Holds p (a ∷ areas) ⊎ (bytes_below (p + 1) (a ∷ areas) ≡ bytes_below p (a ∷ areas))
    by_side x y (inl h) = inl (inr h)
    by_side (inl x) y (inr e) = inr (omega arith)
    by_side (inr x) (inr y) (inr e) = inr (omega arith)
    by_side (inr x) (inl y) (inr e) = inl (inl (x, y))

pub tile-holds : (end : ℕ) (areas : List Area) → Tile end areas → (p : ℕ) → p < end → Holds p areas
tile-holds end areas t p lt = by_or (held_or p areas)
  where
    by_or : Holds p areas ⊎ (bytes_below (p + 1) areas ≡ bytes_below p areas) → Holds p areas
    by_or (inl h) = h
    by_or (inr e) = absurd (omega (arith, t p, t (p + 1)))
