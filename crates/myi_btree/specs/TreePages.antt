-- The bytes of the pages of a laid tree, and where they stand in a file that ends where they begin (the layout of pages is
-- that of the MySQL Internals Manual, "The .MYI Key Values"; that trees stand one behind the other is this project's own).
use Rattle.std.specs.Prelude.{◌≡◌, ◌≤◌, ◌<◌, ◌+◌, ◌*◌, ◌%◌, ◌^◌, ℕ, List, length, drop}
use Rattle.std.specs.List.{AllByRecursion}
use Rattle.myi_keys.specs.Limits.{IsKey}
use Rattle.myi_keylist.specs.declared.pair.Pair.{Pair}
use Rattle.myi_btree.specs.declared.place.Place.{Place}
use Rattle.myi_btree.specs.Sizes.{IsPlaced, AreSized}
use Rattle.myi_btree.specs.Building.{laid_at, pages_bytes, laid_over}

-- the bytes of the pages of the tree of these pairs, from a place on, and the place behind them
abbrev pub tree_pages : Place → ℕ → List Pair → List ℕ
tree_pages place first pairs = pages_bytes place (laid_at place first pairs)

abbrev pub tree_end : Place → ℕ → List Pair → ℕ
tree_end place first pairs = first + place.block_length * length (laid_at place first pairs)

-- a file over which these pages were written
abbrev pub with_tree : Place → ℕ → List Pair → List ℕ → List ℕ
with_tree place first pairs file = laid_over place first (laid_at place first pairs) file

-- the tree of these pairs can be laid from a place on
pub record CanBeLaid (place : Place) (first : ℕ) (pairs : List Pair) : Type 0 where
  pub placed : IsPlaced place
  pub at : first % 1024 ≡ 0
  pub sized : AreSized place pairs
  pub keys : AllByRecursion (λ p. IsKey p.key) pairs
  pub room : tree_end place first pairs < 2 ^ 64

-- A file has these bytes behind a place, and ends with them; before the place there may be fewer bytes.
pub record HasBehind (first end : ℕ) (bytes file : List ℕ) : Type 0 where
  pub behind : drop first file ≡ bytes
  pub long : end ≡ first + length bytes
  pub short : length file ≤ end
