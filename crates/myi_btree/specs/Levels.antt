-- A level of a tree: what it is laid of, and what it leaves for the one above it.
use Rattle.std.specs.Prelude.{ℕ, ◌^◌, ◌<◌, ◌≤◌, Bool, true, false, List, [], length}
use Rattle.std.specs.List.{AllByRecursion}
use Rattle.myi_keypage.specs.declared.entry.Entry.{Entry}
use Rattle.myi_keypage.specs.Page.{Page, page_with, is_node, IsPlace, IsBranching}
use Rattle.myi_keypage.specs.Fitting.{used_length}
use Rattle.myi_keylist.specs.declared.pair.Pair.{Pair}
use Rattle.myi_btree.specs.declared.place.Place.{Place}
use Rattle.myi_btree.specs.Walk.{Node}
use Rattle.myi_btree.specs.Nodes.{entries_of}
use Rattle.myi_btree.specs.Sizes.{AreSized}
use Rattle.myi_btree.specs.LaidPages.{Fits, levels_from}

-- a page that can be written: it has entries, whose row pointers have their bytes, children or none, and it fits
pub record FitsPage (place : Place) (page : Page) : Type 0 where
  pub some : 0 < length page.entries
  pub rows : AllByRecursion (λ (e : Entry). e.row < 256 ^ place.rec_ref) page.entries
  pub places : AllByRecursion IsPlace page.children
  pub branching : IsBranching page
  pub fits : used_length place.rec_ref (is_node page) page.entries ≤ place.block_length

-- the rest of a level can be laid of these pairs and children
pub record CanLevel (place : Place) (pairs : List Pair) (children : List ℕ) : Type 0 where
  pub sized : AreSized place pairs
  pub some : 0 < length pairs
  pub places : AllByRecursion IsPlace children
  pub branching : IsBranching (page_with (entries_of pairs) children)

-- the levels above, where there is more than one page
abbrev pub upper : ℕ → Fits → ℕ → ℕ → List Pair → List ℕ → Bool → List Node
upper n fits block at separators places false = []
upper n fits block at separators places true = levels_from n fits block at true separators places
