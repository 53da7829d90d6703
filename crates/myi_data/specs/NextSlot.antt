-- Which slot of a static table's data file comes next in a scan.
use Rattle.std.specs.Prelude.{◌≡◌, ◌+◌, ◌≤◌, ℕ, Bool, true, List, [], ◌∷◌, length, take, drop, Option, Some, None}
use Rattle.myi_base.specs.Holding.{Holding, bytes_of}
use Rattle.myi_window.specs.Excerpt.{Excerpt, bytes_from, AreFront, StandsIn}
use Rattle.myi_chain.specs.Readable.{Row, Item, row, free}
use Rattle.myi_chain.specs.declared.piece.Wanted.{Wanted}
use Rattle.myi_chain.specs.declared.piece.Wanted.TheVariants.{Items}
use Rattle.myi_chain.specs.ScanModel.{ArePassed, PassesTo}
use Rattle.myi_data.specs.declared.next_slot.SlotKind.{SlotKind}
use Rattle.myi_data.specs.declared.next_slot.SlotKind.TheVariants as kind
use Rattle.myi_data.specs.declared.next_slot.FirstSlot.{FirstSlot}
use Rattle.myi_data.specs.declared.next_slot.FirstSlot.TheVariants as first
use Rattle.myi_data.specs.declared.next_slot.NextSlot.{NextSlot}
use Rattle.myi_data.specs.declared.next_slot.NextSlot.TheVariants as next
use Rattle.myi_data.specs.declared.next_slot.SlotFile.{SlotFile}
use Rattle.myi_data.specs.Readable.{packs, items_at, slot_row, slot_items}

-- the row in the slot at a place
abbrev pub row_in_slot : ℕ → List ℕ → ℕ → Row
row_in_slot size d at = slot_row (record { at = at; bytes = take size (drop at d) })

-- what is met in a file of these bytes from a place on
abbrev pub items_from : (List ℕ → Bool) → ℕ → List ℕ → ℕ → List Item
items_from accepts size x p = items_at accepts size p (drop p x)

-- what a slot of these bytes is, wherever it stands, where items or rows are wanted
abbrev pub IsKind : Wanted → (List ℕ → Bool) → List ℕ → SlotKind → Type 0
IsKind wanted accepts bytes kind.Row = (accepts bytes ≡ true) × ((at : ℕ) → slot_items accepts (record { at = at; bytes = bytes }) ≡ row (slot_row (record { at = at; bytes = bytes })) ∷ [])
IsKind wanted accepts bytes kind.Free = (wanted ≡ Items) × ((at : ℕ) → slot_items accepts (record { at = at; bytes = bytes }) ≡ free (at, at + length bytes) ∷ [])
IsKind wanted accepts bytes kind.Neither = (at : ℕ) → ArePassed wanted (slot_items accepts (record { at = at; bytes = bytes }))

-- ---- what stands first in some bytes, in every file in which they stand

module _ (wanted : Wanted) (accepts : List ℕ → Bool) (size : ℕ) where
  -- in the first so many of these bytes, wherever they stand, these items are next
  abbrev pub IsNextAt : List ℕ → ℕ → (ℕ → List ℕ → List Item) → Type 0
  IsNextAt bytes skip next = (p : ℕ) (x : List ℕ) → AreFront bytes (drop p x) → PassesTo wanted (items_from accepts size x p) (next (p + skip) x)

  -- in the first so many of these bytes nothing that is wanted is met, wherever they stand
  abbrev pub HoldNone : List ℕ → ℕ → Type 0
  HoldNone bytes skip = IsNextAt bytes skip (λ at x. items_from accepts size x at)

  abbrev pub IsFirst : List ℕ → FirstSlot → Type 0
  IsFirst bytes (first.Neither skip) = (skip ≤ length bytes) × (size ≤ length bytes → size ≤ skip) × HoldNone bytes skip
  IsFirst bytes (first.Free skip) = (skip + size ≤ length bytes) × (wanted ≡ Items)
      × IsNextAt bytes skip (λ at x. free (at, at + size) ∷ items_from accepts size x (at + size))
  IsFirst bytes (first.Row skip) = (skip + size ≤ length bytes) × (accepts (take size (drop skip bytes)) ≡ true)
      × IsNextAt bytes skip (λ at x. row (row_in_slot size x at) ∷ items_from accepts size x (at + size))

  -- ---- what is found between two places of a file of these bytes

  abbrev pub IsNext : List ℕ → ℕ → ℕ → Option NextSlot → Type 0
  IsNext x from to None = ArePassed wanted (items_from accepts size x from)
  IsNext x from to (Some (next.Free at)) = PassesTo wanted (items_from accepts size x from) (free (at, at + size) ∷ items_from accepts size x to)
  IsNext x from to (Some (next.Row at)) = PassesTo wanted (items_from accepts size x from) (row (row_in_slot size x at) ∷ items_from accepts size x to)

-- ---- where a slot stands that is found between two places, in any file

abbrev pub IsSlotBetween : ℕ → ℕ → ℕ → ℕ → ℕ → Type 0
IsSlotBetween size from to end at = (from ≤ at) × (to ≡ at + size) × (to ≤ end)

-- a deleted slot is found where items are wanted
abbrev pub IsPlaced : Wanted → ℕ → ℕ → ℕ → ℕ → Option NextSlot → Type 0
IsPlaced wanted size from to end None = to ≡ end
IsPlaced wanted size from to end (Some (next.Free at)) = IsSlotBetween size from to end at × (wanted ≡ Items)
IsPlaced wanted size from to end (Some (next.Row at)) = IsSlotBetween size from to end at

-- ---- what is held of a slot that is found

module _ (accepts : List ℕ → Bool) (size : ℕ) (e : Excerpt) where
  -- the slot at a place is held whole, and packs a row
  abbrev pub HoldsRow : ℕ → Type 0
  HoldsRow at = (size ≤ length (bytes_from at e)) × (accepts (take size (bytes_from at e)) ≡ true)

  abbrev pub IsHeld : Option NextSlot → Type 0
  IsHeld None = Unit {0}
  IsHeld (Some (next.Free at)) = Unit {0}
  IsHeld (Some (next.Row at)) = HoldsRow at

-- ---- the same of a file

-- what is read of the file, where the files hold this
abbrev pub file_bytes : SlotFile → Holding → List ℕ
file_bytes f m = take f.end (bytes_of f.name.now m)

-- what is met in the file from a place on
abbrev pub met_from : SlotFile → Holding → ℕ → List Item
met_from f m p = items_from (packs f.test.now) f.size (file_bytes f m) p

-- what is held stands in the file
abbrev pub IsOfFile : SlotFile → Excerpt → Holding → Type 0
IsOfFile f e m = StandsIn e (bytes_of f.name.now m)

-- this is the first slot between two places that is wanted, if what was held stands in the file
abbrev pub Finds : Wanted → SlotFile → Excerpt → ℕ → ℕ → Option NextSlot → Holding → Type 0
Finds wanted f e from to found m = IsOfFile f e m → IsNext wanted (packs f.test.now) f.size (file_bytes f m) from to found

-- nothing that is wanted is met between two places, if what was held stands in the file
abbrev pub MeetsNone : Wanted → SlotFile → Excerpt → ℕ → ℕ → Holding → Type 0
MeetsNone wanted f e from to m = IsOfFile f e m → PassesTo wanted (met_from f m from) (met_from f m to)
