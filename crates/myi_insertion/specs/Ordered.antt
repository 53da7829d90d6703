-- Where a pair goes among others.
use Rattle.std.specs.Prelude.{◌≡◌, Bool, true, false, List, [], ◌∷◌}
use Rattle.std.specs.List.{AllByRecursion}
use Rattle.std.specs.Ordering.{is_gt, is_eq}
use Rattle.myi_keylist.specs.declared.pair.Pair.{Pair}
use Rattle.myi_keylist.specs.PairOrder.{pair_cmp}

-- all of these stand before the pair
abbrev pub AreBefore : Pair → List Pair → Type 0
AreBefore p qs = AllByRecursion (λ q. is_gt (pair_cmp p q) ≡ true) qs

-- the first of these does not
abbrev pub BeginsBehind : Pair → List Pair → Type 0
BeginsBehind p [] = Unit {0}
BeginsBehind p (q ∷ qs) = is_gt (pair_cmp p q) ≡ false

-- whether the first of these is the pair
abbrev pub begins_with : Pair → List Pair → Bool
begins_with p [] = false
begins_with p (q ∷ qs) = is_eq (pair_cmp p q)
