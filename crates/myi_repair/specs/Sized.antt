-- Pairs that can be laid on the pages of their keys.
use Rattle.std.specs.Prelude.{◌≡◌, ◌+◌, ◌<◌, ℕ, List, [], length, slice_index_or}
use Rattle.std.specs.List.{AllByRecursion}
use Rattle.myi_defs.specs.declared.types.Defs.{Defs}
use Rattle.myi_keys.specs.Limits.{IsKey}
use Rattle.myi_keylist.specs.declared.pair.Pair.{Pair}
use Rattle.myi_btree.specs.Sizes.{AreSized}
use Rattle.myi_pair.specs.Trees.{place_of}

-- the pairs of each key, a list for each, can be laid on its pages
pub record AreSizedPairs (d : Defs) (lists : List (List Pair)) : Type 0 where
  pub all : length lists ≡ length d.keys
  pub sized : (k : ℕ) → k < length d.keys → AreSized (place_of d (k + 1)) (slice_index_or lists k [])
  pub keys : (k : ℕ) → k < length d.keys → AllByRecursion (λ p. IsKey p.key) (slice_index_or lists k [])
