-- The names Ann, Ann, Ann and none, of four rows: two rows go to one prefix, since the names are one prefix and the row without
-- a name has one of its own.
use Rattle.std.proofs.Common.{◌≡◌, List, [], ◌∷◌, refl}
use Rattle.myi_keys.specs.declared.values.KeySeg.{KeySeg}
use Rattle.myi_keys.specs.declared.values.KeySeg.TheVariants.{Absent, Weights}
use Rattle.myi_order.specs.Prefixes.{distinct_prefixes, per, per_each}

ann : List KeySeg
ann = Weights (65 ∷ 78 ∷ 78 ∷ []) ∷ []

names : List (List KeySeg)
names = ann ∷ ann ∷ ann ∷ (Absent ∷ []) ∷ []

two_prefixes : distinct_prefixes 1 names ≡ 2
unfolding distinct_prefixes names ann
two_prefixes = refl

two_rows_each : per_each 1 names ≡ 2 ∷ []
unfolding per distinct_prefixes names ann
two_rows_each = refl

-- the numbers 1, 2, 3 and 4 of a unique key: one row each
one_row_each : per_each 1 ((Weights (1 ∷ []) ∷ []) ∷ (Weights (2 ∷ []) ∷ []) ∷ (Weights (3 ∷ []) ∷ []) ∷ (Weights (4 ∷ []) ∷ []) ∷ []) ≡ 1 ∷ []
unfolding per distinct_prefixes
one_row_each = refl

-- rows without a name are each a prefix of their own
no_names : per_each 1 ((Absent ∷ []) ∷ (Absent ∷ []) ∷ []) ≡ 1 ∷ []
unfolding per distinct_prefixes
no_names = refl
