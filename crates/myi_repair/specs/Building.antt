-- What building the trees leaves.
use Rattle.std.specs.Prelude.{◌≡◌, ℕ, List, map, length}
use Rattle.myi_base.specs.Holding.{Holding, bytes_of}
use Rattle.myi_defs.specs.declared.types.Defs.{Defs}
use Rattle.myi_header.specs.Layout.{first_page_of}
use Rattle.myi_keycache.specs.Caching.{Caching, contents, IsCurrent}
use Rattle.myi_keylist.specs.declared.pair.Pair.{Pair}
use Rattle.myi_keylist.specs.PairOrder.{sorted}
use Rattle.myi_btree.specs.Building.{CanLay}
use Rattle.myi_pair.specs.FirstRows.{key_numbers}
use Rattle.myi_pair.specs.RebuiltBytes.{LaidTrees, laid_trees}
use Rattle.myi_btree.specs.TreePages.{HasBehind}
use Rattle.myi_repair.specs.declared.trees.Trees.{Trees}

-- the trees of these pairs, a list for each key
abbrev pub trees_of : Defs → List (List Pair) → LaidTrees
trees_of d lists = laid_trees d (first_page_of d) (key_numbers d) (map sorted lists)

-- the roots and the end are those of the trees
pub record AreTrees (d : Defs) (lists : List (List Pair)) (trees : Trees) : Type 0 where
  pub roots : trees.roots.items ≡ (trees_of d lists).roots
  pub end : trees.end ≡ (trees_of d lists).end

-- the file holds the trees behind the place of the first page, and ends with them
abbrev pub Builds : Defs → List (List Pair) → List ℕ → Holding → Holding → Type 0
Builds d lists file m n = HasBehind (first_page_of d) (trees_of d lists).end (trees_of d lists).bytes (bytes_of file n)

-- the trees were laid in the file of a key cache that had no byte before
abbrev pub LaysTrees : Defs → List (List Pair) → Caching → Caching → Holding → Holding → Type 0
LaysTrees d lists old new m n = CanLay old m (first_page_of d) → length (contents old m) ≡ 0
    → IsCurrent new n × HasBehind (first_page_of d) (trees_of d lists).end (trees_of d lists).bytes (contents new n)
