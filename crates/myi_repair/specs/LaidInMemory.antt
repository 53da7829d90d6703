-- The trees of a table's keys that are laid in memory, each as if its first page stood at 0 (this project's own).
use Rattle.std.specs.Prelude.{◌≡◌, ◌+◌, ◌<◌, ℕ, List, [], length, slice_index_or}
use Rattle.myi_defs.specs.declared.types.Defs.{Defs}
use Rattle.myi_keylist.specs.declared.pair.Pair.{Pair}
use Rattle.myi_keylist.specs.PairOrder.{sorted}
use Rattle.myi_btree.specs.declared.place.Place.{Place}
use Rattle.myi_btree.specs.declared.laid.Laid.{Laid}
use Rattle.myi_btree.specs.Sizes.{IsPlaced, AreSized}
use Rattle.myi_btree.specs.Building.{laid_at, built_at, pages_bytes, AreKeys}
use Rattle.myi_pair.specs.Trees.{place_of}

-- it is the tree of these pairs, laid from place 0 on
pub record IsLaid (place : Place) (pairs : List Pair) (laid : Laid) : Type 0 where
  pub pages : laid.pages.items ≡ pages_bytes place (laid_at place 0 pairs)
  pub root : laid.place ≡ built_at place 0 pairs

-- and such pairs can be laid from other places on, too
pub record IsTreeOf (place : Place) (pairs : List Pair) (tree : Laid) : Type 0 where
  pub placed : IsPlaced place
  pub sized : AreSized place pairs
  pub keys : AreKeys pairs
  pub laid : IsLaid place pairs tree

-- they are the trees of these pairs, a list for each key, in the order of the keys
pub record AreTreesOf (d : Defs) (lists : List (List Pair)) (trees : List Laid) : Type 0 where
  pub all : length lists ≡ length d.keys
  pub count : length trees ≡ length lists
  pub each : (k : ℕ) → k < length lists → (tree : Laid) → tree ≡ slice_index_or trees k tree → IsTreeOf (place_of d (k + 1)) (sorted (slice_index_or lists k [])) tree
