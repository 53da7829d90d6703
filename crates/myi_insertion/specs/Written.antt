-- What can be written as pages of a tree.
use Rattle.std.specs.Prelude.{◌≡◌, ◌⊎◌, ◌+◌, ◌/◌, ◌≤◌, Bool, ◌^◌, ◌<◌, ℕ, suc, List, [], ◌∷◌, length, take, drop}
use Rattle.std.specs.List.{AllByRecursion}
use Rattle.myi_keys.specs.Limits.{IsKey}
use Rattle.myi_keypage.specs.Page.{IsPlace}
use Rattle.myi_keylist.specs.declared.pair.Pair.{Pair}
use Rattle.myi_keypage.specs.Fitting.{used_length}
use Rattle.myi_btree.specs.declared.place.Place.{Place}
use Rattle.myi_btree.specs.Nodes.{entries_of}
use Rattle.myi_btree.specs.Walk.{Node, node_with}
use Rattle.myi_insertion.specs.declared.settle.Chunk.{Chunk}
use Rattle.myi_insertion.specs.declared.page.PageData.{PageData}
use Rattle.myi_insertion.specs.Strips.{Branches}

-- what stands on a page of the code
abbrev pub page_node : PageData → Node
page_node page = node_with page.pairs page.children.items

-- pairs and children can be written on pages: each row has its bytes, each key is one, each child stands at a place that a page can name
pub record CanWrite (rec_ref : ℕ) (pairs : List Pair) (children : List ℕ) : Type 0 where
  pub some : 0 < length pairs
  pub rows : AllByRecursion (λ (p : Pair). p.row < 256 ^ rec_ref) pairs
  pub keys : AllByRecursion (λ (p : Pair). IsKey p.key) pairs
  pub places : AllByRecursion IsPlace children
  pub branches : Branches pairs children

-- so many of some pairs go on the first of several pages: they fit, and one more and the rest are left
abbrev pub IsCut : Place → Bool → List Pair → ℕ → Type 0
IsCut place node left n = (0 < n) × (n + 1 < length left) × (used_length place.rec_ref node (entries_of (take n left)) ≤ place.block_length)

-- the first of several pages is well filled with so many pairs: more than half of it is used, or one pair more does not fit, or only
-- two pairs are left
abbrev pub IsWellFilled : Place → Bool → List Pair → ℕ → Type 0
IsWellFilled place node left n = (place.block_length / 2 < used_length place.rec_ref node (entries_of (take n left)))
    ⊎ (place.block_length < used_length place.rec_ref node (entries_of (take (n + 1) left))) ⊎ (n + 2 ≡ length left)

-- the node that some pairs of a list are, with children
abbrev pub chunk_node : Chunk → Node
chunk_node chunk = node_with (take chunk.count (drop chunk.start chunk.pairs.now)) chunk.children.now

-- places and separators of trees side by side, the first of which stands at a place
pub record IsStripOf (rec_ref at : ℕ) (places : List ℕ) (separators : List Pair) : Type 0 where
  pub first : (others : List ℕ) × (places ≡ at ∷ others)
  pub count : length places ≡ suc (length separators)
  pub named : AllByRecursion IsPlace places
  pub rows : AllByRecursion (λ (p : Pair). p.row < 256 ^ rec_ref) separators
  pub keys : AllByRecursion (λ (p : Pair). IsKey p.key) separators

-- the same of trees to the left, of which the first stands at the first place, and behind which the next one comes
pub record AreSides (rec_ref first next : ℕ) (places : List ℕ) (separators : List Pair) : Type 0 where
  pub first_is : ((places ≡ []) × (next ≡ first)) ⊎ ((others : List ℕ) × (places ≡ first ∷ others))
  pub count : length places ≡ length separators
  pub named : AllByRecursion IsPlace places
  pub rows : AllByRecursion (λ (p : Pair). p.row < 256 ^ rec_ref) separators
  pub keys : AllByRecursion (λ (p : Pair). IsKey p.key) separators
