-- Jobs that keep their tails, one by one and in a list.
use Rattle.std.proofs.Common.{◌≡◌, ℕ, zero, suc, List, [], ◌∷◌, length, get_or, set, map, All, refl, ap, sym, ◌∙◌, arith}
use Rattle.std.proofs.lemmas.List.{get_or-map, length-map}
use Rattle.myi_tail.specs.Seats.{TailId}

pub all_of_tail : {J : Type 0} (f : J → TailId) (id : TailId) (xs ys : List J) → map f ys ≡ map f xs → All (λ j. f j ≡ id) xs → All (λ j. f j ≡ id) ys
all_of_tail f id xs ys same all k d h =
    let n : length ys ≡ length xs = sym (length-map ys f) ∙ (ap length same ∙ length-map xs f) in
    sym (get_or-map f ys k d id h) ∙ (ap (λ l. get_or l k id) same ∙ (get_or-map f xs k d id (omega arith) ∙ all k d (omega arith)))

-- a job that keeps its tail is put back in its place
pub map_put_back : {J : Type 0} (f : J → TailId) (xs : List J) (i : ℕ) (d y : J) → f y ≡ f (get_or xs i d) → map f (set xs i y) ≡ map f xs
map_put_back f [] i d y same = refl
map_put_back f (z ∷ zs) zero d y same = ap (λ t. t ∷ map f zs) same
map_put_back f (z ∷ zs) (suc i) d y same = ap (λ l. f z ∷ l) (map_put_back f zs i d y same)
