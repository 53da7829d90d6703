-- The spelling of items, and which items have one.
use Rattle.std.specs.Prelude.{ℕ, ◌^◌, ◌<◌, Bool, true, false, List, [], ◌∷◌, ◌++◌, length, Option, Some, None}
use Rattle.myi_keypage.specs.Page.{child_bytes, packed_bytes, IsPlace}
use Rattle.myi_keypage.specs.PageItems.{Item}

abbrev pub IsChild : Bool → Option ℕ → Type 0
IsChild false None = Unit {0}
IsChild false (Some place) = ⊥
IsChild true None = ⊥
IsChild true (Some place) = IsPlace place

abbrev pub child_part : Option ℕ → List ℕ
child_part None = []
child_part (Some place) = child_bytes place

abbrev pub item_bytes : ℕ → Item → List ℕ
item_bytes rec_ref item = packed_bytes rec_ref item.prefix item.rest item.row ++ child_part item.child

pub record IsItem (node : Bool) (rec_ref : ℕ) (item : Item) : Type 0 where
  pub prefix : item.prefix < 65536
  pub rest : length item.rest < 65536
  pub row : item.row < 256 ^ rec_ref
  pub child : IsChild node item.child

abbrev pub items_bytes : ℕ → List Item → List ℕ
items_bytes rec_ref [] = []
items_bytes rec_ref (item ∷ items) = item_bytes rec_ref item ++ items_bytes rec_ref items

abbrev pub AreItems : Bool → ℕ → List Item → Type 0
AreItems node rec_ref [] = Unit {0}
AreItems node rec_ref (item ∷ items) = IsItem node rec_ref item × AreItems node rec_ref items
