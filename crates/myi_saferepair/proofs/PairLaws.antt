-- The pairs of a row, one key after the other.
use Rattle.std.proofs.Common.{◌≡◌, ℕ, zero, suc, ◌+◌, ◌<◌, ◌≤◌, List, [], ◌∷◌, ◌++◌, length, map, take, Option, Some, Result, Ok, Err, refl, sym, ap, ◌∙◌, arith}
use Rattle.std.specs.Prelude.{OnOk}
use Rattle.myi_defs.specs.declared.types.Defs.{Defs}
use Rattle.myi_pack.specs.Packed.{Values}
use Rattle.myi_keylist.specs.declared.pair.Pair.{Pair}
use Rattle.myi_keylist.specs.PairOrder.{pair_with}
use Rattle.myi_data.specs.Keys.{key_of}
use Rattle.myi_pair.specs.FirstRows.{numbers_from, key_numbers}
use Rattle.myi_rowtrees.specs.RowLists.{row_pairs}

pub numbers_long : (low n : ℕ) → length (numbers_from low n) ≡ n
numbers_long low zero = refl
numbers_long low (suc n) = let more = numbers_long (suc low) n in omega (arith, more)

pub numbers_more : (low n i : ℕ) → i < n → take (i + 1) (numbers_from low n) ≡ take i (numbers_from low n) ++ (low + i) ∷ []
numbers_more low zero i few = absurd (omega (arith, few))
numbers_more low (suc n) zero few = let e : low ≡ low + 0 = omega arith in ap (λ (k : ℕ). k ∷ []) e
numbers_more low (suc n) (suc i) few =
    let e : suc i + 1 ≡ suc (i + 1) = omega arith in
    let f : suc low + i ≡ low + suc i = omega arith in
    ap (λ (k : ℕ). take k (numbers_from low (suc n))) e ∙ ap (λ (ks : List ℕ). low ∷ ks) (numbers_more (suc low) n i (omega (arith, few)) ∙ ap (λ (k : ℕ). take i (numbers_from (suc low) n) ++ k ∷ []) f)

map_both : (f : ℕ → Pair) (xs ys : List ℕ) → map f (xs ++ ys) ≡ map f xs ++ map f ys
map_both f [] ys = refl
map_both f (x ∷ xs) ys = ap (λ (ps : List Pair). f x ∷ ps) (map_both f xs ys)

-- the pairs of the first so many keys
abbrev pub first_pairs : Defs → Values → ℕ → ℕ → List Pair
first_pairs d values pointer i = map (λ k. pair_with (key_of d k values) pointer) (take i (key_numbers d))

pub pairs_more : (d : Defs) (values : Values) (pointer i : ℕ) → i < length d.keys → first_pairs d values pointer (i + 1) ≡ first_pairs d values pointer i ++ pair_with (key_of d (i + 1) values) pointer ∷ []
pairs_more d values pointer i few =
    let e : 1 + i ≡ i + 1 = omega arith in
    ap (λ (ks : List ℕ). map (λ k. pair_with (key_of d k values) pointer) ks) (numbers_more 1 (length d.keys) i few)
    ∙ map_both (λ k. pair_with (key_of d k values) pointer) (take i (key_numbers d)) ((1 + i) ∷ [])
    ∙ ap (λ (k : ℕ). first_pairs d values pointer i ++ pair_with (key_of d k values) pointer ∷ []) e

take_all : (xs : List ℕ) (n : ℕ) → length xs ≤ n → take n xs ≡ xs
take_all [] zero few = refl
take_all [] (suc n) few = refl
take_all (x ∷ xs) zero few = absurd (omega (arith, few))
take_all (x ∷ xs) (suc n) few = ap (λ (ys : List ℕ). x ∷ ys) (take_all xs n (omega (arith, few)))

pub pairs_all : (d : Defs) (values : Values) (pointer i : ℕ) → length d.keys ≤ i → first_pairs d values pointer i ≡ row_pairs d values pointer
pairs_all d values pointer i all = let long = numbers_long 1 (length d.keys) in ap (λ (ks : List ℕ). map (λ k. pair_with (key_of d k values) pointer) ks) (take_all (key_numbers d) i (omega (arith, long, all)))

pub some_values : (v w : Values) (o : Option Values) → o ≡ Some v → o ≡ Some w → v ≡ w
some_values v w o a b = let e : Some v ≡ Some w = sym a ∙ b in cc

-- what follows from what an Ok tells
pub ok_more : {A E : Type 0} (r : Result A E) (P Q : Type 0) → (P → Q) → OnOk r P → OnOk r Q
ok_more (Ok x) P Q f p = f p
ok_more (Err e) P Q f p = tt
