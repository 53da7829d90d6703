-- Which bytes of an index file belong to pages of a tree and which are free, and what a change does with them. All is counted byte by
-- byte: 1 for each page and each free range that a byte lies in.
use Rattle.std.specs.Prelude.{◌≡◌, ◌&&◌, ◌+◌, ◌≤◌, ℕ, List, [], ◌∷◌, Some, nat_le, nat_lt, if◌then◌else◌}
use Rattle.myi_keylist.specs.declared.pair.Pair.{Pair}
use Rattle.myi_btree.specs.declared.place.Room.{Room}
use Rattle.myi_btree.specs.Walk.{Node, Places}
use Rattle.myi_insertion.specs.Strips.{IsStrip}

-- 1 for a byte of the range, else 0
abbrev pub within : ℕ → ℕ → ℕ → ℕ
within at len x = if nat_le at x && nat_lt x (at + len) then 1 else 0

-- how many of the pages have the byte
abbrev pub cover : ℕ → List ℕ → ℕ → ℕ
cover block [] x = 0
cover block (p ∷ ps) x = within p block x + cover block ps x

-- how many of the free pages have the byte
abbrev pub covers : List (ℕ × ℕ) → ℕ → ℕ
covers [] x = 0
covers (r ∷ rs) x = within r.0 r.1 x + covers rs x

abbrev pub from_end : ℕ → ℕ → ℕ
from_end end x = if nat_le end x then 1 else 0

-- in how many free pages the byte lies, or behind the end
unfoldable pub stock : Room → ℕ → ℕ
stock room x = from_end room.end x + covers room.free x

-- no byte lies in two of these pages, or in one of them and in the room
abbrev pub AreClear : ℕ → List ℕ → Room → Type 0
AreClear block pages room = (x : ℕ) → cover block pages x + stock room x ≤ 1

-- what stood at a place still stands there
abbrev pub StillStands : Places → Places → ℕ → Type 0
StillStands old new p = (node : Node) → old p ≡ Some node → new p ≡ Some node

-- the pages that have none of these bytes still stand
abbrev pub Spares : ℕ → Places → Places → (ℕ → ℕ) → Type 0
Spares block old new touched = (p : ℕ) → ((x : ℕ) → within p block x + touched x ≤ 1) → StillStands old new p

-- Pages and a room became others: they have the bytes that they had, and pages that have none of these still stand.
pub record Trades (block : ℕ) (old new : Places) (olds : List ℕ) (before after : Room) (news : List ℕ) : Type 0 where
  pub balance : (x : ℕ) → cover block news x + stock after x ≡ cover block olds x + stock before x
  pub spares : Spares block old new (λ x. cover block olds x + stock before x)

-- in place of these pages stand trees with these pairs
pub record Grows (block : ℕ) (old new : Places) (height : ℕ) (xs : List Pair) (olds : List ℕ) (before after : Room) (places : List ℕ) (separators : List Pair) : Type 0 where
  pub pages : List ℕ
  pub strip : IsStrip new height places separators xs pages
  pub trades : Trades block old new olds before after pages
