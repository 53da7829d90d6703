-- Lists in which one item changes.
use Rattle.std.proofs.Common.{◌≡◌, ◌<◌, ℕ, zero, suc, List, [], ◌∷◌, ◌++◌, length, get_or, set, map, refl, ap}
use Rattle.std.specs.Prelude.{replicate}
use Rattle.std.proofs.lemmas.List.{get_or-map}

-- an item of the same meaning is put back in its place
pub map_put_back : {X Y : Type 0} (f : X → Y) (xs : List X) (i : ℕ) (d y : X) → f y ≡ f (get_or xs i d) → map f (set xs i y) ≡ map f xs
map_put_back f [] i d y same = refl
map_put_back f (z ∷ zs) zero d y same = ap (λ t. t ∷ map f zs) same
map_put_back f (z ∷ zs) (suc i) d y same = ap (λ l. f z ∷ l) (map_put_back f zs i d y same)

pub map_set : {X Y : Type 0} (f : X → Y) (xs : List X) (i : ℕ) (y : X) → map f (set xs i y) ≡ set (map f xs) i (f y)
map_set f [] i y = refl
map_set f (z ∷ zs) zero y = refl
map_set f (z ∷ zs) (suc i) y = ap (λ l. f z ∷ l) (map_set f zs i y)

pub map_one_more : {X Y : Type 0} (f : X → Y) (xs : List X) (x : X) → map f (xs ++ x ∷ []) ≡ map f xs ++ f x ∷ []
map_one_more f [] x = refl
map_one_more f (z ∷ zs) x = ap (λ l. f z ∷ l) (map_one_more f zs x)

pub replicate_more : {X : Type 0} (n : ℕ) (x : X) → replicate n x ++ x ∷ [] ≡ replicate (suc n) x
replicate_more zero x = refl
replicate_more (suc n) x = ap (λ l. x ∷ l) (replicate_more n x)

-- an item's part in the list of all parts
pub share_is : {X Y : Type 0} (f : X → Y) (xs : List X) (i : ℕ) (x : X) → i < length xs → (y : Y) → get_or (map f xs) i y ≡ f (get_or xs i x)
share_is f xs i x inside y = get_or-map f xs i x y inside
