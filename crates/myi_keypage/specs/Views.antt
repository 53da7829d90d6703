-- The page that bytes are, as a function, and what a view of it shows.
use Rattle.std.specs.Prelude.{ℕ, ◌+◌, ◌-◌, ◌*◌, ◌%◌, Bool, ◌&&◌, ◌||◌, List, [], ◌∷◌, length, take, drop, slice_index, Option, Some, None, option_map, nat_lt, nat_le, if◌then◌else◌}
use Rattle.myi_keypage.specs.declared.entry.Entry.{Entry}
use Rattle.myi_keypage.specs.Page.{Page}
use Rattle.myi_keypage.specs.PageItems.{◌>>=◌, Item, key_after, are_longest, child_at, items_of}

-- the entries that items are, behind a key
abbrev pub entries_after : List ℕ → List Item → List Entry
entries_after before [] = []
entries_after before (item ∷ items) = let key = key_after before item in record { key = key; row = item.row } ∷ entries_after key items

abbrev pub with_child : Option ℕ → List ℕ → List ℕ
with_child None places = places
with_child (Some place) places = place ∷ places

abbrev pub children_of : List Item → List ℕ
children_of [] = []
children_of (item ∷ items) = with_child item.child (children_of items)

-- what a view of a page shows: the first child of a node, and the items
pub record ViewedPage : Type 0 where
  pub first : Option ℕ
  pub items : List Item

abbrev pub viewed_page : Option ℕ → List Item → ViewedPage
viewed_page first items = record { first = first; items = items }

-- the page with the keys of all entries whole
abbrev pub page_of : ViewedPage → Page
page_of s = record { entries = entries_after [] s.items; children = with_child s.first (children_of s.items) }

-- what the bytes behind the first two show: at least one item, and each prefix the longest
unfoldable pub viewed_body : Bool → ℕ → List ℕ → Option ViewedPage
viewed_body node rec_ref body = do
  first ← child_at node body
  items ← items_of node rec_ref first.1
  if nat_lt 0 (length items) && are_longest [] items then Some (viewed_page first.0 items) else None

-- the items that the bytes are, which are none where they are no items
abbrev pub items_or_none : Option (List Item) → List Item
items_or_none None = []
items_or_none (Some items) = items

abbrev pub items_in : Bool → ℕ → List ℕ → List Item
items_in node rec_ref bytes = items_or_none (items_of node rec_ref bytes)

-- the used length that the first two bytes name
abbrev pub used_in : List ℕ → ℕ
used_in bytes = slice_index bytes 0 % 128 * 256 + slice_index bytes 1

-- what the bytes show, where they are a page
unfoldable pub viewed_in : ℕ → List ℕ → Option ViewedPage
viewed_in rec_ref bytes =
    if nat_lt (length bytes) 2 || (nat_lt (used_in bytes) 2 || nat_lt (length bytes) (used_in bytes)) then None else viewed_body (nat_le 128 (slice_index bytes 0)) rec_ref (take (used_in bytes - 2) (drop 2 bytes))

-- the page that the bytes are, and none where they are no page
abbrev pub page_in : ℕ → List ℕ → Option Page
page_in rec_ref bytes = option_map page_of (viewed_in rec_ref bytes)
