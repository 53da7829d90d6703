-- What releasing keeps.
use Rattle.std.proofs.Common.{◌≡◌, ℕ, ◌+◌, Bool, true, false, List, [], ◌∷◌, Option, Some, None, refl, sym, ap, subst, ◌∙◌, arith}
use Rattle.std.specs.Prelude.{◌==◌, nat_le, if◌then◌else◌}
use Rattle.std.specs.List.{AllByRecursion}
use Rattle.std.proofs.lemmas.Bool.{leb-true, leb-false, eqb-true}
use Rattle.myi_dellist.specs.Areas.{Area, below, bytes_below}
use Rattle.myi_dellist.specs.Releasing.{most_size, hole_at, without, joined, release_one, front_part, back_part, release, release_all, IsHole, IsFreeable}

pub taken_out : (n p : ℕ) (holes : List Area) (h : Area) → hole_at p holes ≡ Some h → (h.at ≡ p) × (bytes_below n holes ≡ below n h + bytes_below n (without p holes))
taken_out n p [] h e = absurd cc
taken_out n p (a ∷ holes) h e = by_test (a.at == p) refl e (taken_out n p holes h)
  where
    by_test : (b : Bool) → (a.at == p) ≡ b → (if b then Some a else hole_at p holes) ≡ Some h → (hole_at p holes ≡ Some h → (h.at ≡ p) × (bytes_below n holes ≡ below n h + bytes_below n (without p holes))) → (h.at ≡ p) × (below n a + bytes_below n holes ≡ below n h + bytes_below n (if b then holes else a ∷ without p holes))
    by_test true t e ih = let same : a ≡ h = cc in let at : a.at ≡ p = eqb-true _ _ t in (ap (λ (x : Area). x.at) (sym same) ∙ at, ap (λ (x : Area). below n x + bytes_below n holes) same)
    by_test false t e ih = let more = ih e in (more.0, omega (arith, more.1))

below-joined : (n : ℕ) (a : Area) (holes : List Area) (o : Option Area) → hole_at (a.at + a.size) holes ≡ o → bytes_below n (joined a holes o) ≡ below n a + bytes_below n holes
below-joined n a holes None e = refl
below-joined n a holes (Some h) e = by_test (nat_le (a.size + h.size) most_size) (taken_out n (a.at + a.size) holes h e)
  where
    by_test : (b : Bool) → (h.at ≡ a.at + a.size) × (bytes_below n holes ≡ below n h + bytes_below n (without (a.at + a.size) holes)) → bytes_below n (if b then record { at = a.at; size = a.size + h.size } ∷ without h.at holes else a ∷ holes) ≡ below n a + bytes_below n holes
    by_test true f = let at = f.0 in let all = f.1 in let e : bytes_below n (without h.at holes) ≡ bytes_below n (without (a.at + a.size) holes) = ap (λ (q : ℕ). bytes_below n (without q holes)) at in omega (arith, all, at, e)
    by_test false f = refl

pub below-release_one : (n : ℕ) (a : Area) (holes : List Area) → bytes_below n (release_one a holes) ≡ below n a + bytes_below n holes
unfolding release_one
below-release_one n a holes = below-joined n a holes (hole_at (a.at + a.size) holes) refl

pub below-release : (n : ℕ) (a : Area) (holes : List Area) → bytes_below n (release a holes) ≡ below n a + bytes_below n holes
unfolding release
below-release n a holes = by_test (nat_le a.size most_size) refl
  where
    by_test : (b : Bool) → nat_le a.size most_size ≡ b → bytes_below n (if b then release_one a holes else release_one (front_part a) (release_one (back_part a) holes)) ≡ below n a + bytes_below n holes
    by_test true t = below-release_one n a holes
    by_test false t =
        let long = leb-false _ _ t in
        let one = below-release_one n (back_part a) holes in
        let two = below-release_one n (front_part a) (release_one (back_part a) holes) in
        omega (arith, one, two, long)

pub below-release_all : (n : ℕ) (areas holes : List Area) → bytes_below n (release_all areas holes) ≡ bytes_below n areas + bytes_below n holes
below-release_all n [] holes = omega arith
below-release_all n (a ∷ areas) holes = omega (arith, below-release_all n areas (release a holes), below-release n a holes)

-- ---- the sizes of what is deleted

pub all-without : (P : Area → Type 0) (p : ℕ) (holes : List Area) → AllByRecursion P holes → AllByRecursion P (without p holes)
all-without P p [] all = tt
all-without P p (h ∷ holes) all = by_test (h.at == p) (all-without P p holes all.1)
  where
    by_test : (b : Bool) → AllByRecursion P (without p holes) → AllByRecursion P (if b then holes else h ∷ without p holes)
    by_test true ih = all.1
    by_test false ih = (all.0, ih)

all-found : (P : Area → Type 0) (p : ℕ) (holes : List Area) (h : Area) → AllByRecursion P holes → hole_at p holes ≡ Some h → P h
all-found P p [] h all e = absurd cc
all-found P p (a ∷ holes) h all e = by_test (a.at == p) e (all-found P p holes h all.1)
  where
    by_test : (b : Bool) → (if b then Some a else hole_at p holes) ≡ Some h → (hole_at p holes ≡ Some h → P h) → P h
    by_test true e ih = let same : a ≡ h = cc in subst P same all.0
    by_test false e ih = ih e

holes-joined : (a : Area) (holes : List Area) (o : Option Area) → IsHole a → AllByRecursion IsHole holes → hole_at (a.at + a.size) holes ≡ o → AllByRecursion IsHole (joined a holes o)
holes-joined a holes None h all e = (h, all)
holes-joined a holes (Some b) h all e = by_test (nat_le (a.size + b.size) most_size) refl (all-found IsHole (a.at + a.size) holes b all e)
  where
    by_test : (t : Bool) → nat_le (a.size + b.size) most_size ≡ t → IsHole b → AllByRecursion IsHole (if t then record { at = a.at; size = a.size + b.size } ∷ without b.at holes else a ∷ holes)
    by_test true e k = (record { aligned = h.aligned; multiple = omega (arith, h.multiple, k.multiple); least = omega (arith, h.least); most = leb-true _ _ e }, all-without IsHole b.at holes all)
    by_test false e k = (h, all)

pub holes-release_one : (a : Area) (holes : List Area) → IsHole a → AllByRecursion IsHole holes → AllByRecursion IsHole (release_one a holes)
unfolding release_one
holes-release_one a holes h all = holes-joined a holes (hole_at (a.at + a.size) holes) h all refl

pub holes-release : (a : Area) (holes : List Area) → IsFreeable a → AllByRecursion IsHole holes → AllByRecursion IsHole (release a holes)
unfolding release
holes-release a holes f all = by_test (nat_le a.size most_size) refl
  where
    by_test : (b : Bool) → nat_le a.size most_size ≡ b → AllByRecursion IsHole (if b then release_one a holes else release_one (front_part a) (release_one (back_part a) holes))
    by_test true t = holes-release_one a holes (record { aligned = f.aligned; multiple = f.multiple; least = f.least; most = leb-true _ _ t }) all
    by_test false t =
        let long = leb-false _ _ t in
        let back : IsHole (back_part a) = record { aligned = omega (arith, f.aligned); multiple = omega (arith, f.multiple, long); least = omega (arith, long); most = omega (arith, f.most) } in
        let front : IsHole (front_part a) = record { aligned = f.aligned; multiple = omega arith; least = omega arith; most = omega arith } in
        holes-release_one (front_part a) (release_one (back_part a) holes) front (holes-release_one (back_part a) holes back all)

pub holes-release_all : (areas holes : List Area) → AllByRecursion IsFreeable areas → AllByRecursion IsHole holes → AllByRecursion IsHole (release_all areas holes)
holes-release_all [] holes fs all = all
holes-release_all (a ∷ areas) holes fs all = holes-release_all areas (release a holes) fs.1 (holes-release a holes fs.0 all)
