-- Reading the items of a page from left to right. A reader takes what it reads from the front of the bytes,
-- answers it with what is left, and answers none where it does not stand there.
use Rattle.std.specs.Prelude.{ℕ, zero, suc, ◌+◌, ◌*◌, ◌^◌, Bool, true, false, ◌&&◌, List, [], ◌∷◌, ◌++◌, length, take, drop, Option, Some, None, nat_lt, nat_le, ◌==◌, if◌then◌else◌, option_map}
use Rattle.myi_base.specs.Numbers.{num}
use Rattle.myi_keypage.specs.Page.{shared}
use Rattle.myi_keypage.specs.declared.item.PageItem.{PageItem}

infixl 10 ◌>>=◌
abbrev pub ◌>>=◌ : {A B : Type 0} → Option A → (A → Option B) → Option B
None >>= f = None
(Some x) >>= f = f x

-- one entry as it stands: how many bytes it shares with the key before it, the rest of its key, its row
-- pointer, and in a node the place of the page after it
pub record Item : Type 0 where
  pub prefix : ℕ
  pub rest : List ℕ
  pub row : ℕ
  pub child : Option ℕ

-- what an item of the code is
abbrev pub item_view : PageItem → Item
item_view p = record { prefix = p.prefix; rest = p.rest.now; row = p.row; child = p.child }

abbrev pub piece_at : ℕ → List ℕ → Option (List ℕ × List ℕ)
piece_at n bytes = if nat_lt (length bytes) n then None else Some (take n bytes, drop n bytes)

-- the two bytes of a number of 255 and more
abbrev pub wide_at : List ℕ → Option (ℕ × List ℕ)
wide_at [] = None
wide_at (h ∷ []) = None
wide_at (h ∷ l ∷ bs) = if nat_lt (h * 256 + l) 255 then None else Some (h * 256 + l, bs)

-- a number in its shortest form
unfoldable pub number_at : List ℕ → Option (ℕ × List ℕ)
number_at [] = None
number_at (b ∷ bs) = if nat_lt b 255 then Some (b, bs) else wide_at bs

-- a number of n bytes
unfoldable pub pointer_at : ℕ → List ℕ → Option (ℕ × List ℕ)
pointer_at n bytes = if nat_lt (length bytes) n then None else Some (num n bytes, drop n bytes)

-- a child's place, whose number is below 2 ^ 54
unfoldable pub place_at : List ℕ → Option (ℕ × List ℕ)
place_at bytes = do
  number ← pointer_at 7 bytes
  if nat_lt number.0 (2 ^ 54) then Some (number.0 * 1024, number.1) else None

-- in a node the place of a child, and in a leaf nothing
unfoldable pub child_at : Bool → List ℕ → Option (Option ℕ × List ℕ)
child_at false bytes = Some (None, bytes)
child_at true bytes = do
  place ← place_at bytes
  Some (Some place.0, place.1)

unfoldable pub item_at : Bool → ℕ → List ℕ → Option (Item × List ℕ)
item_at node rec_ref bytes = do
  prefix ← number_at bytes
  len ← number_at prefix.1
  rest ← piece_at len.0 len.1
  row ← pointer_at rec_ref rest.1
  child ← child_at node row.1
  Some (record { prefix = prefix.0; rest = rest.0; row = row.0; child = child.0 }, child.1)

-- the items that the bytes are, at most n
unfoldable pub items_up_to : ℕ → Bool → ℕ → List ℕ → Option (List Item)
items_up_to n node rec_ref [] = Some []
items_up_to zero node rec_ref (b ∷ bs) = None
items_up_to (suc n) node rec_ref (b ∷ bs) = do
  item ← item_at node rec_ref (b ∷ bs)
  option_map (λ items. item.0 ∷ items) (items_up_to n node rec_ref item.1)

-- the items that the bytes are, to their end
unfoldable pub items_of : Bool → ℕ → List ℕ → Option (List Item)
items_of node rec_ref bytes = items_up_to (length bytes) node rec_ref bytes

-- the key of an item behind the key before it
abbrev pub key_after : List ℕ → Item → List ℕ
key_after before item = take item.prefix before ++ item.rest

-- the prefix is within the key before it, and no longer one is shared
abbrev pub is_longest : List ℕ → Item → Bool
is_longest before item = nat_le item.prefix (length before) && (shared (drop item.prefix before) item.rest == 0)

abbrev pub are_longest : List ℕ → List Item → Bool
are_longest before [] = true
are_longest before (item ∷ items) = is_longest before item && are_longest (key_after before item) items

-- they are items, and each prefix is the longest
unfoldable pub passes : List ℕ → Option (List Item) → Bool
passes before None = false
passes before (Some items) = are_longest before items
