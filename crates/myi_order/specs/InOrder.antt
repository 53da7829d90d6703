-- The rows of a table in the order of a key: by key, and rows with one key by their positions (MySQL Reference Manual,
-- "myisamchk Other Options", `--sort-records`; the order of rows with one key is this project's own).
use Rattle.std.specs.Prelude.{ℕ, if◌then◌else◌, List, [], ◌∷◌, map, IsPermutation, IsSorted}
use Rattle.std.specs.Ordering.{is_gt}
use Rattle.myi_defs.specs.declared.types.Defs.{Defs}
use Rattle.myi_chain.specs.Readable.{Row}
use Rattle.myi_keylist.specs.declared.pair.Pair.{Pair}
use Rattle.myi_keylist.specs.PairOrder.{pair_with, pair_cmp}
use Rattle.myi_data.specs.Keys.{key_of}
use Rattle.myi_pair.specs.Clean.{values_of}

-- the key of a row for the key of that number, and the row's position
abbrev pub placed_key : Defs → ℕ → Row → Pair
placed_key d k row = pair_with (key_of d k (values_of d row)) row.at

-- a row put into a list in order
abbrev pub put_in_order : Defs → ℕ → Row → List Row → List Row
put_in_order d k row [] = row ∷ []
put_in_order d k row (other ∷ others) = if is_gt (pair_cmp (placed_key d k row) (placed_key d k other)) then other ∷ put_in_order d k row others else row ∷ other ∷ others

-- these rows in order
abbrev pub in_order : Defs → ℕ → List Row → List Row
in_order d k [] = []
in_order d k (row ∷ rows) = put_in_order d k row (in_order d k rows)

-- the same rows, in order
pub record IsInOrder (d : Defs) (k : ℕ) (rows ordered : List Row) : Type 0 where
  pub same : IsPermutation rows ordered
  pub order : IsSorted pair_cmp (map (placed_key d k) ordered)
