-- What was read of a table's rows so far.
use Rattle.std.specs.Prelude.{◌≡◌, ◌<◌, ◌≤◌, ℕ, Bool, true, false, List, [], ◌∷◌, ◌++◌, length, map, Option, Some}
use Rattle.myi_base.specs.Holding.{Holding, IfTold}
use Rattle.myi_defs.specs.declared.types.Defs.{Defs}
use Rattle.myi_keylist.specs.declared.pair.Pair.{Pair}
use Rattle.myi_keylist.specs.PairOrder.{pair_with}
use Rattle.myi_data.specs.Keys.{key_of}
use Rattle.myi_pack.specs.Packed.{Values}
use Rattle.myi_data.specs.Readable.{readable}
use Rattle.myi_data.specs.Scanning.{TableScan, rows_ahead}
use Rattle.myi_rowkeys.specs.TableKeys.{key_numbers}
use Rattle.myi_pair.specs.KeyList.{PlacedRow}
use Rattle.myi_pair.specs.Clean.{values_of, placed_row}
use Rattle.myi_order.specs.declared.rows_read.RowsRead.{RowsRead}
use Rattle.myi_order.specs.declared.counting.Counted.{Counted}
use Rattle.myi_order.specs.KeyParts.{key_parts}

-- a row's pair for the key of that number, with the row's place
abbrev pub placed_pair : Defs → ℕ → PlacedRow → Pair
placed_pair d k row = pair_with (key_of d k row.1) row.0

-- the pairs of rows with their places, a list for each key
abbrev pub placed_pairs : Defs → List PlacedRow → List (List Pair)
placed_pairs d rows = map (λ k. map (placed_pair d k) rows) (key_numbers d)

-- these rows were read, and the lists have their pairs
pub record HasRead (d : Defs) (rows : List PlacedRow) (r : RowsRead) : Type 0 where
  pub pairs : r.keys ≡ placed_pairs d rows
  pub count : r.count ≡ length rows

-- the values of rows with their places
abbrev pub values_placed : List PlacedRow → List Values
values_placed rows = map (λ (r : PlacedRow). r.1) rows

-- the rows that a scan has left, with their places
abbrev pub placed_ahead : TableScan → Holding → List PlacedRow
placed_ahead s m = map (placed_row s.test) (rows_ahead s m)

-- a row was read, the first that was left; the others are left
pub record Reads (d : Defs) (told : Option Holding) (s t : TableScan) (old new : RowsRead) : Type 0 where
  pub row : PlacedRow
  pub takes : (rows : List PlacedRow) → HasRead d rows old → HasRead d (rows ++ row ∷ []) new
  pub rises : s.place < t.place
  pub within : t.place ≤ t.end
  pub first : IfTold told (λ m. placed_ahead s m ≡ row ∷ placed_ahead t m)

-- a row was read, or none was left
abbrev pub ReadsIf : Bool → Defs → Option Holding → TableScan → TableScan → RowsRead → RowsRead → Type 0
ReadsIf true d told s t old new = Reads d told s t old new
ReadsIf false d told s t old new = (new ≡ old) × IfTold told (λ m. placed_ahead s m ≡ [])

-- all rows that a scan had left were read
abbrev pub ReadsAll : Defs → Option Holding → TableScan → RowsRead → Type 0
ReadsAll d told s r = (rows : List PlacedRow) × HasRead d rows r × IfTold told (λ m. rows ≡ placed_ahead s m)

-- all rows of the data file of that name were read
abbrev pub ReadsFile : Defs → List ℕ → Option Holding → RowsRead → Type 0
ReadsFile d name told r = (rows : List PlacedRow) × HasRead d rows r × IfTold told (λ m. (x : List ℕ) → m name ≡ Some x → rows ≡ map (placed_row d) (readable d false x))

-- the rows per prefix of these rows were counted
pub record IsCounted (d : Defs) (rows : List Values) (c : Counted) : Type 0 where
  pub count : c.rows ≡ length rows
  pub parts : c.parts.items ≡ key_parts d rows

-- the rows per prefix of the readable rows of a data file were counted
abbrev pub CountsFile : Defs → List ℕ → Counted → Type 0
CountsFile d rows c = IsCounted d (map (values_of d) (readable d false rows)) c
