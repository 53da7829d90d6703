-- What was met of a data file so far, and how the next item changes it.
use Rattle.std.specs.Prelude.{◌≡◌, ◌⊎◌, ◌≤◌, ◌<◌, ◌+◌, ℕ, Bool, true, false, List, [], ◌∷◌, ◌++◌, length, map, sum_by, Option, Some}
use Rattle.std.specs.List.{AllByRecursion}
use Rattle.myi_base.specs.Holding.{Holding, IfTold}
use Rattle.myi_base.specs.Ranges.{Range}
use Rattle.myi_defs.specs.declared.types.Defs.{Defs}
use Rattle.myi_chain.specs.Chain.{ranges_at}
use Rattle.myi_chain.specs.Readable.{Item, rows_of, frees_of}
use Rattle.myi_chain.specs.Meeting.{ranges_of}
use Rattle.myi_data.specs.Scanning.{TableScan, items_ahead}
use Rattle.myi_pack.specs.Packed.{Values}
use Rattle.myi_pack.specs.Unpacking.{row_of}
use Rattle.myi_rowkeys.specs.TableKeys.{row_keys}
use Rattle.myi_rowkeys.specs.RowLists.{with_pairs}
use Rattle.myi_pair.specs.KeyList.{pointer}
use Rattle.myi_pair.specs.Trees.{total}
use Rattle.myi_check.specs.declared.met.Met.{Met}
use Rattle.myi_check.specs.HeldBytes.{SameBytes, EndsNear}
use Rattle.myi_check.specs.Rows.{pair_lists, ArePlacesOf}

-- the bytes that are noted of these items: those of the rows, and those of deleted blocks where both are noted together
abbrev pub held_of : Bool → List Item → List Range
held_of true items = ranges_of (rows_of items) ++ frees_of items
held_of false items = ranges_of (rows_of items)

-- the deleted blocks among these items are noted by their places and by how many bytes all have
pub record HasPlaces (items : List Item) (met : Met) : Type 0 where
  pub places : met.deleted ≡ map (λ (a : Range). a.0) (frees_of items)
  pub empty : met.empty ≡ total (frees_of items)

-- the deleted blocks among these items are noted by their places and sizes
pub record HasBlocks (items : List Item) (met : Met) : Type 0 where
  pub ranges : ranges_at met.frees.items ≡ frees_of items
  pub near : AllByRecursion EndsNear met.frees.items

abbrev pub HasFrees : Bool → List Item → Met → Type 0
HasFrees true items met = HasPlaces items met
HasFrees false items met = HasBlocks items met

-- these items were met, rows and deleted blocks together or not
pub record HasMet (d : Defs) (together : Bool) (items : List Item) (met : Met) : Type 0 where
  pub keys : met.with_keys ≡ true → met.keys ≡ pair_lists d (rows_of items)
  pub lists : length met.keys ≡ length d.keys
  pub records : met.records ≡ length (rows_of items)
  pub split : met.split ≡ length (ranges_of (rows_of items))
  pub places : ArePlacesOf (rows_of items) met.places
  pub row_bytes : met.row_bytes ≡ total (ranges_of (rows_of items))
  pub held : SameBytes (held_of together items) met.held
  pub frees : HasFrees together items met

-- one more item was met
abbrev pub Takes : Defs → Bool → Item → Met → Met → Type 0
Takes d together item old new = (items : List Item) → HasMet d together items old → HasMet d together (items ++ item ∷ []) new

-- what is noted of deleted blocks stays
pub record KeepsFrees (old new : Met) : Type 0 where
  pub frees : new.frees.items ≡ old.frees.items
  pub deleted : new.deleted ≡ old.deleted
  pub empty : new.empty ≡ old.empty

-- what is noted of rows stays, but for their bytes
pub record KeepsRows (old new : Met) : Type 0 where
  pub with_keys : new.with_keys ≡ old.with_keys
  pub together : new.together ≡ old.together
  pub row_bytes : new.row_bytes ≡ old.row_bytes
  pub keys : new.keys ≡ old.keys
  pub records : new.records ≡ old.records
  pub places : new.places ≡ old.places
  pub split : new.split ≡ old.split

-- the place of a row was noted, or is not
abbrev pub NotesPlace : ℕ → Met → Met → Type 0
NotesPlace at old new = (new.places ≡ old.places) ⊎ (new.places ≡ old.places ++ at ∷ [])

-- the pairs of a row of these bytes were noted, where they are noted
pub record NotesKeys (d : Defs) (at : ℕ) (bytes : List ℕ) (old new : Met) : Type 0 where
  pub with_keys : new.with_keys ≡ old.with_keys
  pub together : new.together ≡ old.together
  pub row_bytes : new.row_bytes ≡ old.row_bytes
  pub keys : old.with_keys ≡ true → (values : Values) × (row_of d bytes ≡ Some values) × (new.keys ≡ with_pairs (pointer d at) (row_keys d values) old.keys)
  pub lists : length new.keys ≡ length old.keys
  pub records : new.records ≡ old.records
  pub places : new.places ≡ old.places
  pub split : new.split ≡ old.split
  pub held : new.held ≡ old.held
  pub frees : KeepsFrees old new

-- a row of these bytes was noted, with its pairs or its place
pub record NotesPairs (d : Defs) (at : ℕ) (bytes : List ℕ) (old new : Met) : Type 0 where
  pub with_keys : new.with_keys ≡ old.with_keys
  pub together : new.together ≡ old.together
  pub row_bytes : new.row_bytes ≡ old.row_bytes
  pub keys : old.with_keys ≡ true → (values : Values) × (row_of d bytes ≡ Some values) × (new.keys ≡ with_pairs (pointer d at) (row_keys d values) old.keys)
  pub lists : length new.keys ≡ length old.keys
  pub records : new.records ≡ old.records + 1
  pub places : NotesPlace at old new
  pub split : new.split ≡ old.split
  pub held : new.held ≡ old.held
  pub frees : KeepsFrees old new

-- the blocks of a row were noted
pub record NotesBlocks (blocks : List (ℕ × ℕ)) (old new : Met) : Type 0 where
  pub held : SameBytes (old.held ++ ranges_at blocks) new.held
  pub split : new.split ≡ old.split + length blocks
  pub row_bytes : new.row_bytes ≡ old.row_bytes + sum_by (λ b. b.1) blocks
  pub with_keys : new.with_keys ≡ old.with_keys
  pub together : new.together ≡ old.together
  pub keys : new.keys ≡ old.keys
  pub records : new.records ≡ old.records
  pub places : new.places ≡ old.places
  pub frees : KeepsFrees old new

-- a deleted block was noted by its place, and its bytes
pub record NotesPlaced (at size : ℕ) (old new : Met) : Type 0 where
  pub rows : KeepsRows old new
  pub held : SameBytes (old.held ++ (at, at + size) ∷ []) new.held
  pub deleted : new.deleted ≡ old.deleted ++ at ∷ []
  pub empty : new.empty ≡ old.empty + size

-- a deleted block was noted by its place and its size
pub record NotesSized (at size : ℕ) (old new : Met) : Type 0 where
  pub rows : KeepsRows old new
  pub held : new.held ≡ old.held
  pub frees : new.frees.items ≡ old.frees.items ++ (at, size) ∷ []

abbrev pub NotesFree : Bool → ℕ → ℕ → Met → Met → Type 0
NotesFree true at size old new = NotesPlaced at size old new
NotesFree false at size old new = NotesSized at size old new

-- an item was read, the first that was left; the others are left
pub record Reads (d : Defs) (together : Bool) (told : Option Holding) (s t : TableScan) (old new : Met) : Type 0 where
  pub item : Item
  pub takes : Takes d together item old new
  pub with_keys : new.with_keys ≡ old.with_keys
  pub noting : new.together ≡ old.together
  pub rises : s.place < t.place
  pub within : t.place ≤ t.end
  pub first : IfTold told (λ m. items_ahead s m ≡ item ∷ items_ahead t m)

-- an item was read, or none was left
abbrev pub ReadsIf : Bool → Defs → Bool → Option Holding → TableScan → TableScan → Met → Met → Type 0
ReadsIf true d together told s t old new = Reads d together told s t old new
ReadsIf false d together told s t old new = (new ≡ old) × IfTold told (λ m. items_ahead s m ≡ [])

-- all items that a scan had left were met
abbrev pub MeetsAll : Defs → Bool → Option Holding → TableScan → Met → Type 0
MeetsAll d together told s met = (items : List Item) × HasMet d together items met × IfTold told (λ m. items ≡ items_ahead s m)
