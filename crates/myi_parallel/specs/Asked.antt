-- The tree of a key that is asked for.
use Rattle.std.specs.Prelude.{ℕ, List}
use Rattle.myi_keylist.specs.declared.pair.Pair.{Pair}
use Rattle.myi_btree.specs.declared.place.Place.{Place}

-- the number of a key, how its pages are made, and its pairs in order
pub record Asked : Type 0 where
  pub key : ℕ
  pub place : Place
  pub pairs : List Pair

abbrev pub asked : ℕ → Place → List Pair → Asked
asked key place pairs = record { key = key; place = place; pairs = pairs }
