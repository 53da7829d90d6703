-- Pages in memory that are to stand elsewhere.
use Rattle.std.specs.Prelude.{◌≡◌, ℕ, ◌+◌, ◌-◌, ◌<◌, ◌^◌, List, ◌++◌, length, replicate, Option, Some, None}
use Rattle.std.specs.List.{AllByRecursion, flat_map}
use Rattle.myi_keypage.specs.Page.{page_bytes}
use Rattle.myi_keypage.specs.Shifting.{CanShift}
use Rattle.myi_btree.specs.declared.place.Place.{Place}
use Rattle.myi_btree.specs.Walk.{Node}
use Rattle.myi_btree.specs.Nodes.{page_of_node}
use Rattle.myi_btree.specs.LaidPages.{moved}

-- a page as it stands: its node, and what stands behind its used bytes, which is not read
pub record StoredPage : Type 0 where
  pub node : Node
  pub behind : List ℕ

-- the page of a node as it is laid, with zeros behind its used bytes
abbrev pub laid_page : Place → Node → StoredPage
laid_page place node = record { node = node; behind = replicate (place.block_length - length (page_bytes place.rec_ref (page_of_node node))) 0 }

-- the bytes of a page, and of pages one behind the other
abbrev pub stored_page : Place → StoredPage → List ℕ
stored_page place page = page_bytes place.rec_ref (page_of_node page.node) ++ page.behind

abbrev pub stored_pages : Place → List StoredPage → List ℕ
stored_pages place pages = flat_map (stored_page place) pages

-- a page of the tree, whose children may stand so many bytes further on
abbrev pub IsMovable : Place → ℕ → StoredPage → Type 0
IsMovable place by page = CanShift place.rec_ref by (page_of_node page.node) × (length (stored_page place page) ≡ place.block_length)

abbrev pub AreMovable : Place → ℕ → List StoredPage → Type 0
AreMovable place by pages = AllByRecursion (IsMovable place by) pages

-- the same page with each child so many bytes further on
abbrev pub moved_page : ℕ → StoredPage → StoredPage
moved_page by page = record { node = moved by page.node; behind = page.behind }

-- a root so many bytes further on, where there is one
abbrev pub moved_root : ℕ → Option ℕ → Option ℕ
moved_root by None = None
moved_root by (Some root) = Some (root + by)

-- a root that has a place so many bytes further on
abbrev pub CanMoveRoot : ℕ → Option ℕ → Type 0
CanMoveRoot by None = Unit {0}
CanMoveRoot by (Some root) = root + by < 2 ^ 64
