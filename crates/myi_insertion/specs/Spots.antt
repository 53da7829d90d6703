-- Where a pair goes on a page.
use Rattle.std.specs.Prelude.{◌≡◌, ◌⊎◌, ◌≤◌, ℕ, List, [], ◌∷◌, ◌++◌, length, take, drop, Some, None, is_some, IsTrue}
use Rattle.std.specs.List.{slice_get, AllByRecursion}
use Rattle.myi_keys.specs.Comparing.{IsCode}
use Rattle.myi_keypage.specs.declared.entry.Entry.{Entry}
use Rattle.myi_keypage.specs.Page.{page_with, IsPage}
use Rattle.myi_keylist.specs.declared.pair.Pair.{Pair}
use Rattle.myi_btree.specs.Walk.{node_with}
use Rattle.myi_btree.specs.Nodes.{entries_of, node_in}
use Rattle.myi_btree.specs.declared.fault.TreeFault.{TreeFault}
use Rattle.myi_btree.specs.declared.fault.TreeFault.TheVariants.{Damaged}
use Rattle.myi_insertion.specs.declared.pass.Spot.{Spot}
use Rattle.myi_insertion.specs.Written.{CanWrite}
use Rattle.myi_insertion.specs.Ordered.{AreBefore, BeginsBehind}

-- the key of each entry is the code of one
abbrev pub HaveCodes : List Entry → Type 0
HaveCodes es = AllByRecursion (λ (e : Entry). IsCode e.key) es

-- on the page that bytes are, so many entries stand before a spot, and in a node the child between them and the others is next
pub record IsOnPage (rec_ref : ℕ) (bytes : List ℕ) (spot : Spot) : Type 0 where
  pub entries : List Entry
  pub children : List ℕ
  pub page : IsPage rec_ref bytes (page_with entries children)
  pub inside : spot.index ≤ length entries
  pub next : slice_get children spot.index ≡ spot.child

-- the damage at this place is that the bytes of a page are no node, or they are one and it was met below
abbrev pub IsFirstDamage : ℕ → List ℕ → ℕ → TreeFault → ℕ → Type 0
IsFirstDamage rec_ref bytes at below p = ((p ≡ at) × (node_in rec_ref bytes ≡ None)) ⊎ ((below ≡ Damaged p) × IsTrue (is_some (node_in rec_ref bytes)))

-- on the page that bytes are, so many pairs stand before a pair, and the others do not; in a node the child between them is next
pub record IsSpot (rec_ref : ℕ) (bytes : List ℕ) (p : Pair) (spot : Spot) : Type 0 where
  pub pairs : List Pair
  pub children : List ℕ
  pub stands : node_in rec_ref bytes ≡ Some (node_with pairs children)
  pub page : IsPage rec_ref bytes (page_with (entries_of pairs) children)
  pub written : CanWrite rec_ref pairs children
  pub inside : spot.index ≤ length pairs
  pub before : AreBefore p (take spot.index pairs)
  pub behind : BeginsBehind p (drop spot.index pairs)
  pub next : slice_get children spot.index ≡ spot.child

-- pairs with another one behind so many of them
abbrev pub with_pair : ℕ → Pair → List Pair → List Pair
with_pair i p pairs = (take i pairs ++ p ∷ []) ++ drop i pairs
