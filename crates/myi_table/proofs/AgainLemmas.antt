-- The places of the trees, one after the other.
use Rattle.std.proofs.Common.{◌≡◌, ℕ, zero, suc, ◌+◌, ◌<◌, List, [], ◌∷◌, ◌++◌, length, take, HoldsAt, sym, ap, subst, ◌∙◌, arith}
use Rattle.std.specs.List.{AllByRecursion}
use Rattle.myi_btree.specs.declared.place.Place.{Place}

one_more : (ps : List Place) (i : ℕ) (p : Place) → i < length ps → HoldsAt (λ (q : Place). q ≡ p) ps i → take i ps ++ (p ∷ []) ≡ take (suc i) ps
one_more [] i p few at = absurd (omega (arith, few))
one_more (q ∷ ps) zero p few at = ap {B = List Place} (λ (r : Place). r ∷ []) (sym (at q))
one_more (q ∷ ps) (suc i) p few at = ap (λ (rs : List Place). q ∷ rs) (one_more ps i p (omega (arith, few)) at)

pub places_go_on : (ps : List Place) (i : ℕ) (p : Place) (old new : List Place) → i < length ps → HoldsAt (λ (q : Place). q ≡ p) ps i → new ≡ old ++ (p ∷ []) → old ≡ take i ps → new ≡ take (i + 1) ps
places_go_on ps i p old new few at more have =
    more ∙ ap (λ (rs : List Place). rs ++ (p ∷ [])) have ∙ one_more ps i p few at ∙ (let e : suc i ≡ i + 1 = omega arith in ap (λ j. take j ps) e)

all_and_one : (P : Place → Type 0) (xs : List Place) (x : Place) → AllByRecursion P xs → P x → AllByRecursion P (xs ++ (x ∷ []))
all_and_one P [] x all is = (is, tt)
all_and_one P (y ∷ xs) x all is = (all.0, all_and_one P xs x all.1 is)

pub all_go_on : (P : Place → Type 0) (old new : List Place) (x : Place) → new ≡ old ++ (x ∷ []) → AllByRecursion P old → P x → AllByRecursion P new
all_go_on P old new x more all is = subst (λ (xs : List Place). AllByRecursion P xs) (sym more) (all_and_one P old x all is)
