-- What tiles a file follows one another, once it is in order.
use Rattle.std.proofs.Common.{◌≡◌, ℕ, ◌+◌, ◌-◌, ◌<◌, ◌≤◌, ◌⊎◌, inl, inr, min, max, Bool, true, false, List, [], ◌∷◌, refl, arith}
use Rattle.std.specs.Prelude.{nat_le, if◌then◌else◌}
use Rattle.std.proofs.lemmas.Bool.{leb-true, leb-false, cases_lt}
use Rattle.myi_dellist.specs.Areas.{Area, below, bytes_below, Tile, HaveBytes}
use Rattle.myi_dellist.specs.Order.{put_in, in_order, Follow}

abbrev AreRising : ℕ → List Area → Type 0
AreRising low [] = Unit {0}
AreRising low (a ∷ areas) = (low ≤ a.at) × AreRising a.at areas

put_below : (n : ℕ) (a : Area) (areas : List Area) → bytes_below n (put_in a areas) ≡ below n a + bytes_below n areas
put_below n a [] = refl
put_below n a (b ∷ areas) = by_test (nat_le a.at b.at) (put_below n a areas)
  where
    by_test : (t : Bool) → bytes_below n (put_in a areas) ≡ below n a + bytes_below n areas → bytes_below n (if t then a ∷ b ∷ areas else b ∷ put_in a areas) ≡ below n a + bytes_below n (b ∷ areas)
    by_test true ih = refl
    by_test false ih = omega (arith, ih)

pub order-below : (n : ℕ) (areas : List Area) → bytes_below n (in_order areas) ≡ bytes_below n areas
order-below n [] = refl
order-below n (a ∷ areas) = omega (arith, put_below n a (in_order areas), order-below n areas)

put_rising : (low : ℕ) (a : Area) (areas : List Area) → low ≤ a.at → AreRising low areas → AreRising low (put_in a areas)
put_rising low a [] le r = (le, tt)
put_rising low a (b ∷ areas) le r = by_test (nat_le a.at b.at) refl (λ far. put_rising b.at a areas far r.1)
  where
    by_test : (t : Bool) → nat_le a.at b.at ≡ t → (b.at ≤ a.at → AreRising b.at (put_in a areas)) → AreRising low (if t then a ∷ b ∷ areas else b ∷ put_in a areas)
    by_test true e ih = (le, (leb-true _ _ e, r.1))
    by_test false e ih = (r.0, ih (omega (arith, leb-false _ _ e)))

order_rising : (areas : List Area) → AreRising 0 (in_order areas)
order_rising [] = tt
order_rising (a ∷ areas) = put_rising 0 a (in_order areas) (omega arith) (order_rising areas)

none_below : (n low : ℕ) (areas : List Area) → n ≤ low → AreRising low areas → bytes_below n areas ≡ 0
none_below n low [] le r = refl
none_below n low (a ∷ areas) le r = omega (arith, r.0, none_below n a.at areas (omega (arith, r.0)) r.1)

follows : (end p low : ℕ) (areas : List Area) → p ≤ end → HaveBytes areas → AreRising low areas → ((n : ℕ) → bytes_below n areas ≡ min end n - min p n) → Follow end p areas
follows end p low [] le some r f = omega (arith, f end)
follows end p low (a ∷ areas) le some r f =
    let big = max (a.at + a.size) end in
    let at : a.at ≡ p = by_order (cases_lt p a.at) (λ far. none_below (p + 1) a.at areas (omega arith) r.1) (f p) (f (p + 1)) (f big) some.0 in
    (at, follows end (p + a.size) a.at areas (omega (arith, f big, at, some.0)) some.1 r.1 (λ n. omega (arith, f n, f big, at)))
  where
    by_order : (p < a.at) ⊎ (a.at ≤ p) → (p < a.at → bytes_below (p + 1) areas ≡ 0) → below p a + bytes_below p areas ≡ min end p - min p p → below (p + 1) a + bytes_below (p + 1) areas ≡ min end (p + 1) - min p (p + 1) → below (max (a.at + a.size) end) a + bytes_below (max (a.at + a.size) end) areas ≡ min end (max (a.at + a.size) end) - min p (max (a.at + a.size) end) → 0 < a.size → a.at ≡ p
    by_order (inl far) none f0 f1 fb some = absurd (omega (arith, none far))
    by_order (inr near) none f0 f1 fb some = omega arith

put_bytes : (a : Area) (areas : List Area) → 0 < a.size → HaveBytes areas → HaveBytes (put_in a areas)
put_bytes a [] h k = (h, tt)
put_bytes a (b ∷ areas) h k = by_test (nat_le a.at b.at) (put_bytes a areas h k.1)
  where
    by_test : (t : Bool) → HaveBytes (put_in a areas) → HaveBytes (if t then a ∷ b ∷ areas else b ∷ put_in a areas)
    by_test true ih = (h, k)
    by_test false ih = (k.0, ih)

order_bytes : (areas : List Area) → HaveBytes areas → HaveBytes (in_order areas)
order_bytes [] h = tt
order_bytes (a ∷ areas) h = put_bytes a (in_order areas) h.0 (order_bytes areas h.1)

pub tiles-follow : (end : ℕ) (areas : List Area) → HaveBytes areas → Tile end areas → Follow end 0 (in_order areas)
tiles-follow end areas some t =
    follows end 0 0 (in_order areas) (omega arith) (order_bytes areas some) (order_rising areas) (λ n. omega (arith, t n, order-below n areas))

follow_below : (end p : ℕ) (areas : List Area) → Follow end p areas → (n : ℕ) → bytes_below n areas ≡ min end n - min p n
follow_below end p [] f n = omega (arith, f)
follow_below end p (a ∷ areas) f n =
    let at = f.0 in
    let le = follow_up end (p + a.size) areas f.1 in
    omega (arith, at, le, follow_below end (p + a.size) areas f.1 n)
  where
    follow_up : (end p : ℕ) (areas : List Area) → Follow end p areas → p ≤ end
    follow_up end p [] f = omega (arith, f)
    follow_up end p (a ∷ areas) f = omega (arith, follow_up end (p + a.size) areas f.1)

pub follow-tiles : (end : ℕ) (areas : List Area) → Follow end 0 (in_order areas) → Tile end areas
follow-tiles end areas f n = omega (arith, follow_below end 0 (in_order areas) f n, order-below n areas)
