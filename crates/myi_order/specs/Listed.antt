-- The rows per prefix by the lists of the keys of a table, which its trees have.
use Rattle.std.specs.Prelude.{◌≡◌, ◌+◌, ◌<◌, ℕ, List, [], length, slice_index_or, IsSorted, Option, None}
use Rattle.std.specs.List.{AllByRecursion}
use Rattle.myi_defs.specs.declared.types.Defs.{Defs}
use Rattle.myi_keys.specs.declared.values.KeySeg.{KeySeg}
use Rattle.myi_keylist.specs.declared.pair.Pair.{Pair}
use Rattle.myi_keylist.specs.PairOrder.{pair_cmp}
use Rattle.myi_keylist.specs.Repeats.{keys_of}
use Rattle.myi_data.specs.Keys.{segments_of}
use Rattle.myi_check.specs.Keys.{rooted_place}
use Rattle.myi_order.specs.Prefixes.{per_each}
use Rattle.myi_order.specs.PrefixCounts.{tree_pairs}
use Rattle.myi_order.specs.declared.key_parts.KeyParts.{KeyParts}

-- the list is in order, and its keys have as many segments as the key at that index
pub record IsListOfKey (d : Defs) (index : ℕ) (list : List Pair) : Type 0 where
  pub order : IsSorted pair_cmp list
  pub segments : AllByRecursion (λ (p : Pair). length p.key ≡ length (segments_of d.keys (index + 1))) list

-- the rows per prefix of the key at an index, by the keys of rows
abbrev pub parts_of_keys : Defs → ℕ → List (List KeySeg) → KeyParts
parts_of_keys d index keys = record { key = index + 1; per = per_each (length (segments_of d.keys (index + 1))) keys }

-- by the tree of the key at an index, with that root in an index file, if its pairs are a list of the key
abbrev pub CountsKey : Defs → ℕ → Option ℕ → List ℕ → KeyParts → Type 0
CountsKey d index root x parts = IsListOfKey d index (tree_pairs (rooted_place d (index + 1) root) x)
    → parts ≡ parts_of_keys d index (keys_of (tree_pairs (rooted_place d (index + 1) root) x))

-- and by the lists of all keys
abbrev pub parts_at : Defs → List (List Pair) → ℕ → KeyParts
parts_at d lists index = parts_of_keys d index (keys_of (slice_index_or lists index []))

-- the pairs of the trees with these roots are these lists of the keys
abbrev pub HaveLists : Defs → List (Option ℕ) → List ℕ → List (List Pair) → Type 0
HaveLists d roots x lists = (i : ℕ) → i < length roots
    → (tree_pairs (rooted_place d (i + 1) (slice_index_or roots i None)) x ≡ slice_index_or lists i []) × IsListOfKey d i (slice_index_or lists i [])
