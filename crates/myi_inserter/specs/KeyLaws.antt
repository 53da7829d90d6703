-- Keys of a map are the same exactly where they are equal, and equal keys are hashed alike.
use Rattle.std.proofs.Common.{◌≡◌, ℕ, Bool, true, false, List, refl, ap, ◌∙◌, eqb-true, eq-eqb}
use Rattle.std.specs.Prelude.{◌==◌, ◌&&◌, IsTrue}
use Rattle.std.specs.Ordering.{is_eq}
use Rattle.std.specs.Cmp.{IsEquivalence, decided, first_so, second_so}
use Rattle.std.specs.declared.cmp.Ordering.{Ordering}
use Rattle.std.specs.declared.cmp.Ordering.TheVariants.{Less, Equal, Greater}
use Rattle.myi_keys.specs.declared.values.KeySeg.{KeySeg}
use Rattle.myi_keys.specs.Order.{key_cmp}
use Rattle.myi_keys.specs.OrderLaws.{key_exact, key_equal}
use Rattle.myi_inserter.specs.declared.unique_key.UniqueKey.{UniqueKey}
use Rattle.myi_inserter.specs.UniqueKeys.{is_same, hashed}

equal_is : (o : Ordering) → is_eq o ≡ true → o ≡ Equal
equal_is Less e = absurd cc
equal_is Equal e = refl
equal_is Greater e = absurd cc

both_true : (a b : Bool) → a ≡ true → b ≡ true → (a && b) ≡ true
both_true true b one two = two
both_true false b one two = one

pub same_is : (x y : UniqueKey) → is_same x y ≡ true → x ≡ y
same_is x y same =
    let number : x.number ≡ y.number = eqb-true x.number y.number (first_so (x.number == y.number) (is_eq (key_cmp x.key y.key)) same) in
    let key : x.key ≡ y.key = key_exact x.key y.key (equal_is (key_cmp x.key y.key) (second_so (x.number == y.number) (is_eq (key_cmp x.key y.key)) same)) in
    ap (λ (n : ℕ). record { number = n; key = x.key }) number ∙ ap (λ (k : List KeySeg). record { number = y.number; key = k }) key

pub is_the_same : (x y : UniqueKey) → x ≡ y → is_same x y ≡ true
is_the_same x y is =
    both_true (x.number == y.number) (is_eq (key_cmp x.key y.key)) (eq-eqb x.number y.number (ap (λ (u : UniqueKey). u.number) is)) (ap is_eq (key_equal x.key y.key (ap (λ (u : UniqueKey). u.key) is)))

pub same_equiv : IsEquivalence is_same
same_equiv = decided is_same (λ x y. (same_is x y, is_the_same x y))

pub same_hashed : (x y : UniqueKey) → IsTrue (is_same x y) → hashed x ≡ hashed y
same_hashed x y same = ap hashed (same_is x y same)
