-- Which pairs a search passes by, and the first pair that it does not.
use Rattle.std.specs.Prelude.{◌≡◌, ℕ, Bool, false, if◌then◌else◌, List, [], ◌∷◌, Option, Some, None, option_map, IfSome}
use Rattle.std.specs.List.{AllByRecursion}
use Rattle.std.specs.Option.{option_or}
use Rattle.std.specs.Ordering.{is_eq}
use Rattle.myi_keys.specs.declared.values.KeySeg.{KeySeg}
use Rattle.myi_keys.specs.Order.{key_cmp}
use Rattle.myi_keys.specs.Comparing.{key_front, IsCode}
use Rattle.myi_keylist.specs.declared.pair.Pair.{Pair}
use Rattle.myi_keylist.specs.PairOrder.{pair_with}
use Rattle.myi_btree.specs.Walk.{Node}
use Rattle.myi_search.specs.declared.bound.Bound.{Bound}
use Rattle.myi_search.specs.declared.bound.Bound.TheVariants as bound
use Rattle.myi_search.specs.declared.page.Way.{Way}
use Rattle.myi_search.specs.declared.page.Way.TheVariants.{Child, Leaf, NoPage}
use Rattle.myi_search.specs.declared.reached.Reached.{Reached}
use Rattle.myi_search.specs.Path.{is_below, is_up_to, next_child}

-- the pairs that a bound passes by
abbrev pub passes : Bound → Pair → Bool
passes bound.Start = is_up_to None
passes (bound.Key code) = is_below (key_front code.now)
passes (bound.Behind code row) = is_up_to (Some (pair_with (key_front code.now) row))

-- the first pair that is not passed by
abbrev pub first_kept : (Pair → Bool) → List Pair → Option Pair
first_kept test [] = None
first_kept test (p ∷ ps) = if test p then first_kept test ps else Some p

-- once a pair is not passed by, no later one is
abbrev pub IsParted : (Pair → Bool) → List Pair → Type 0
IsParted test [] = Unit {0}
IsParted test (p ∷ ps) = (test p ≡ false → AllByRecursion (λ q. test q ≡ false) ps) × IsParted test ps

-- the pair that a search reached last
abbrev pub best_of : Reached → Option Pair
best_of r = option_map (λ row. pair_with (key_front r.best.items) row) r.row

-- its code is that of a key
abbrev pub HasCode : Reached → Type 0
HasCode r = IfSome r.row (λ row. IsCode r.best.items)

-- the row of a pair, where it has this key
abbrev pub row_with : List KeySeg → Option Pair → Option ℕ
row_with key None = None
row_with key (Some p) = if is_eq (key_cmp p.key key) then Some p.row else None

-- where a search goes on
abbrev pub way_to : Option ℕ → Way
way_to None = Leaf
way_to (Some child) = Child child

-- a search in a page: it goes into the next child, and the first pair that it does not pass by is the best so far
abbrev pub Seeks : (Pair → Bool) → Option Node → Way → Option Pair → Option Pair → Type 0
Seeks test None way old new = way ≡ NoPage
Seeks test (Some node) way old new = (way ≡ way_to (next_child test node.pairs node.children)) × (new ≡ option_or (first_kept test node.pairs) old)
