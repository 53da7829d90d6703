-- The trees of an index file: the tree of each key, from its root, with what its pages may not meet.
use Rattle.std.specs.Prelude.{◌≡◌, ◌-◌, ℕ, true, List, [], ◌∷◌, ◌++◌, map, sum_by, Option, Some, None}
use Rattle.std.specs.List.{AllByRecursion}
use Rattle.std.specs.Option.{option_map_or}
use Rattle.myi_base.specs.Ranges.{Range, is_apart}
use Rattle.myi_defs.specs.declared.types.Defs.{Defs}
use Rattle.myi_data.specs.Keys.{key_at}
use Rattle.myi_btree.specs.declared.place.Place.{Place}
use Rattle.myi_btree.specs.Walk.{Walked, content}
unfoldable pub use Rattle.myi_btree.specs.Nodes.{node_at}
use Rattle.myi_btree.specs.Visit.{page_range, HasWalk}
use Rattle.myi_pair.specs.KeyList.{PlacedRow, key_list}

-- the length of the pages of a key, by its number
abbrev pub block_of_key : Defs → ℕ → ℕ
block_of_key d k = option_map_or (λ key. key.block_length) (key_at d.keys k) 0

-- how the pages of a key are made, with no root yet
abbrev pub place_of : Defs → ℕ → Place
place_of d k = record { block_length = block_of_key d k; rec_ref = d.rec_ref; root = None }

-- the pages of a walk have no byte of these ranges
abbrev pub AreFree : List Range → List Range → Type 0
AreFree busy pages = AllByRecursion (λ page. is_apart page busy ≡ true) pages

-- the ranges of the pages of a walk of that key's tree
abbrev pub pages_on : Defs → ℕ → Walked → List Range
pages_on d k w = map (page_range (block_of_key d k)) w.pages

-- the walk of a tree without a root
abbrev pub no_walk : Walked
no_walk = record { pairs = []; pages = [] }

-- The tree of a key has this walk from its root, and its pages have no byte of a busy range or of each other.
abbrev pub HasWalkApart : Defs → ℕ → List ℕ → Option ℕ → List Range → Walked → Type 0
HasWalkApart d k x None busy w = w ≡ no_walk
HasWalkApart d k x (Some root) busy w = HasWalk (block_of_key d k) (node_at d.rec_ref (block_of_key d k) x) root w × AreFree busy (pages_on d k w)

-- The trees of these keys have these walks, apart from busy ranges: for each key the pages of the keys before it are busy
-- too.
abbrev pub HaveWalks : Defs → List ℕ → List Range → List ℕ → List (Option ℕ) → List Walked → Type 0
HaveWalks d x busy [] roots ws = (roots ≡ []) × (ws ≡ [])
HaveWalks d x busy (k ∷ ks) [] ws = ⊥
HaveWalks d x busy (k ∷ ks) (root ∷ roots) [] = ⊥
HaveWalks d x busy (k ∷ ks) (root ∷ roots) (w ∷ ws) = HasWalkApart d k x root busy w × HaveWalks d x (busy ++ pages_on d k w) ks roots ws

-- the pairs of each walk are the key list of its key
abbrev pub AreKeyLists : Defs → List PlacedRow → List ℕ → List Walked → Type 0
AreKeyLists d rows [] ws = ws ≡ []
AreKeyLists d rows (k ∷ ks) [] = ⊥
AreKeyLists d rows (k ∷ ks) (w ∷ ws) = (content w ≡ key_list d k rows) × AreKeyLists d rows ks ws

-- the pages of all walks
abbrev pub all_pages : Defs → List ℕ → List Walked → List Range
all_pages d [] ws = []
all_pages d (k ∷ ks) [] = []
all_pages d (k ∷ ks) (w ∷ ws) = pages_on d k w ++ all_pages d ks ws

-- how many bytes ranges have
abbrev pub total : List Range → ℕ
total ranges = sum_by (λ (r : Range). r.1 - r.0) ranges
