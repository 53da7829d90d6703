-- Jobs that keep what they have in common, one by one and in a list.
use Rattle.std.proofs.Common.{◌≡◌, ℕ, zero, suc, List, [], ◌∷◌, length, get_or, set, map, All, refl, ap, sym, ◌∙◌, arith}
use Rattle.std.proofs.lemmas.List.{get_or-map, length-map}
use Rattle.myi_defs.specs.declared.types.Defs.{Defs}
use Rattle.myi_tail.specs.Seats.{TailId}
use Rattle.myi_share_tests.specs.Parts.{Part}

pub all_of_part : {J P : Type 0} (f : J → P) (p : P) (xs ys : List J) → map f ys ≡ map f xs → All (λ j. f j ≡ p) xs → All (λ j. f j ≡ p) ys
all_of_part f p xs ys same all k d h =
    let n : length ys ≡ length xs = sym (length-map ys f) ∙ (ap length same ∙ length-map xs f) in
    sym (get_or-map f ys k d p h) ∙ (ap (λ l. get_or l k p) same ∙ (get_or-map f xs k d p (omega arith) ∙ all k d (omega arith)))

-- a job that keeps its part is put back in its place
pub map_put_back : {J P : Type 0} (f : J → P) (xs : List J) (i : ℕ) (d y : J) → f y ≡ f (get_or xs i d) → map f (set xs i y) ≡ map f xs
map_put_back f [] i d y same = refl
map_put_back f (z ∷ zs) zero d y same = ap (λ t. t ∷ map f zs) same
map_put_back f (z ∷ zs) (suc i) d y same = ap (λ l. f z ∷ l) (map_put_back f zs i d y same)

-- equal parts, one by one
abbrev part_with : Defs → TailId → ℕ → Part
part_with d t n = record { defs = d; tail = t; number = n }

pub same_part : (a b : Part) → a.defs ≡ b.defs → a.tail ≡ b.tail → a.number ≡ b.number → a ≡ b
same_part a b defs tail number =
    ap (λ d. part_with d a.tail a.number) defs
    ∙ (ap (λ t. part_with b.defs t a.number) tail ∙ ap (λ n. part_with b.defs b.tail n) number)
