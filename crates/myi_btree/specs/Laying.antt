-- A tree that is laid page by page: the pages that are still to come.
use Rattle.std.specs.Prelude.{◌≡◌, ◌⊎◌, ℕ, suc, ◌+◌, ◌*◌, ◌%◌, ◌<◌, ◌≤◌, ◌++◌, ◌∷◌, ◌==◌, not, List, [], length, take, drop, Option, Some, None, nat_lt, if◌then◌else◌}
use Rattle.std.specs.List.{AllByRecursion}
use Rattle.myi_keypage.specs.Page.{IsPlace}
use Rattle.myi_keylist.specs.declared.pair.Pair.{Pair}
use Rattle.myi_btree.specs.declared.place.Place.{Place}
use Rattle.myi_btree.specs.declared.laying.Laying.{Laying}
use Rattle.myi_btree.specs.declared.laying.Level.{Level as LaidLevel}
use Rattle.myi_btree.specs.Walk.{Node, node_with}
use Rattle.myi_btree.specs.Sizes.{AreSized, fits_in}
use Rattle.myi_btree.specs.LaidPages.{Level, level_of, places_from}
use Rattle.myi_btree.specs.Building.{page_for}
use Rattle.myi_btree.specs.Levels.{CanLevel, upper}

-- the pairs of a level: in the lowest those of the tree, and else those that were set aside below
abbrev pub level_pairs : List Pair → LaidLevel → List Pair
level_pairs pairs below = if length below.places.items == 0 then pairs else below.separators

-- those of the level that are left, and the children that are left
abbrev pub pairs_left : Laying → List Pair
pairs_left l = drop l.start (level_pairs l.pairs.now l.below)

abbrev pub children_left : Laying → List ℕ
children_left l = drop l.start l.below.places.items

-- the rest of a level of these pairs and children
abbrev pub rest_of : ℕ → Place → List Pair → List ℕ → Level
rest_of bound place pairs children = level_of bound (fits_in place (not (length children == 0))) pairs children

-- These pages come from a place on: the rest of the level of these pairs and children, and the levels above it, of
-- which some pairs and places are known.
pub record Comes (place : Place) (at : ℕ) (pairs : List Pair) (children : List ℕ) (separators : List Pair) (places : List ℕ) (nodes : List Node) : Type 0 where
  pub can : CanLevel place pairs children
  pub bound : ℕ
  pub enough : length pairs ≤ bound
  pub above : ℕ
  pub few : length separators + length pairs ≤ suc above
  pub are : nodes ≡ (rest_of bound place pairs children).pages
      ++ upper above (fits_in place) place.block_length (at + place.block_length * length (rest_of bound place pairs children).pages)
      (separators ++ (rest_of bound place pairs children).separators) (places ++ places_from (length (rest_of bound place pairs children).pages) place.block_length at)
      (nat_lt 1 (length places + length (rest_of bound place pairs children).pages))
  pub aside : AreSized place separators
  pub laid : AllByRecursion IsPlace places
  pub count : length places ≡ length separators
  pub whole : at % 1024 ≡ 0

-- these pages are still to come: none where no pair is left
abbrev pub IsToCome : Laying → List Node → Type 0
IsToCome l nodes = ((pairs_left l ≡ []) × (nodes ≡ [])) ⊎ Comes l.setup.place l.end (pairs_left l) (children_left l) l.level.separators l.level.places.items nodes

-- it falls with each page
abbrev pub left_count : Laying → ℕ
left_count l = length l.level.separators + length (pairs_left l)

-- the page of so many of the pairs that are left
abbrev pub next_node : Laying → ℕ → Node
next_node l count = node_with (take count (pairs_left l)) (take (suc count) (children_left l))

-- the next page came, or there was none
abbrev pub GivesNext : Laying → List ℕ → Option ℕ → Laying → List Node → Type 0
GivesNext old page None new nodes = (nodes ≡ []) × (new.end ≡ old.end)
GivesNext old page (Some at) new nodes =
    (at ≡ old.end) × (new.end ≡ at + old.setup.place.block_length) × (left_count new < left_count old)
    × ((node : Node) × (rest : List Node) × (nodes ≡ node ∷ rest) × (page ≡ page_for old.setup.place node) × IsToCome new rest)
