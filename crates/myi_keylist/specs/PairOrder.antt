-- The order of pairs: by key, and then by row pointer; and the list with given pairs that is in order.
use Rattle.std.specs.Prelude.{ℕ, if◌then◌else◌, List, [], ◌∷◌}
use Rattle.std.specs.Ordering.{nat_cmp, ordering_then, is_gt}
use Rattle.std.specs.declared.cmp.Ordering.{Ordering}
use Rattle.myi_keys.specs.declared.values.KeySeg.{KeySeg}
use Rattle.myi_keys.specs.Order.{key_cmp}
use Rattle.myi_keylist.specs.declared.pair.Pair.{Pair}

abbrev pub pair_with : List KeySeg → ℕ → Pair
pair_with key row = record { key = key; row = row }

-- by key, and then by pointer
abbrev pub pair_cmp : Pair → Pair → Ordering
pair_cmp p q = ordering_then (key_cmp p.key q.key) (nat_cmp p.row q.row)

-- a pair put into a sorted list
abbrev pub put_pair : Pair → List Pair → List Pair
put_pair p [] = p ∷ []
put_pair p (q ∷ qs) = if is_gt (pair_cmp p q) then q ∷ put_pair p qs else p ∷ q ∷ qs

abbrev pub sorted : List Pair → List Pair
sorted [] = []
sorted (p ∷ ps) = put_pair p (sorted ps)
