-- What a scan of a data file finds: of the readable rows and the deleted blocks what a check compares.
use Rattle.std.specs.Prelude.{◌≡◌, ◌+◌, ◌<◌, ℕ, Bool, true, false, List, length, map}
use Rattle.std.specs.List.{AllByRecursion, Contains}
use Rattle.myi_defs.specs.declared.types.RowFormat.TheVariants.{Static}
use Rattle.myi_defs.specs.declared.types.Defs.{Defs}
use Rattle.myi_keylist.specs.declared.pair.Pair.{Pair}
use Rattle.myi_chain.specs.Readable.{Row}
use Rattle.myi_chain.specs.Meeting.{ranges_of}
use Rattle.myi_data.specs.Readable.{readable}
use Rattle.myi_data.specs.Readable as table
use Rattle.myi_pair.specs.FirstRows.{key_numbers}
use Rattle.myi_pair.specs.KeyList.{PlacedRow, pairs_of}
use Rattle.myi_pair.specs.Trees.{total}
use Rattle.myi_pair.specs.Clean.{placed_row}
use Rattle.myi_pair.specs.Findings.{deleted_places, rows_bad}
use Rattle.myi_placelist.specs.Places.{IsRising}
use Rattle.myi_check.specs.declared.rows.RowsFound.{RowsFound}
use Rattle.myi_check.specs.declared.rows.ScannedFile.{ScannedFile}

-- in a static table a row pointer stands behind the first byte at each of these places of a file of so many bytes
abbrev pub ArePointed : Defs → ℕ → List ℕ → Type 0
ArePointed d len ps = d.format ≡ Static → AllByRecursion (λ p. p + d.rec_ref < len) ps

-- the readable rows of a data file, each with its place
abbrev pub rows_in : Defs → List ℕ → List PlacedRow
rows_in d x = map (placed_row d) (readable d false x)

-- one of these rows stands at the place
pub record IsPlaceOf (rows : List Row) (p : ℕ) : Type 0 where
  pub row : Row
  pub among : Contains rows row
  pub at : row.at ≡ p

-- one of these rows stands at each of these places
abbrev pub ArePlacesOf : List Row → List ℕ → Type 0
ArePlacesOf rows ps = AllByRecursion (IsPlaceOf rows) ps

-- the pairs of these rows, a list for each key
abbrev pub pair_lists : Defs → List Row → List (List Pair)
pair_lists d rows = map (λ k. pairs_of d k (map (placed_row d) rows)) (key_numbers d)

-- these numbers and places were found of a data file of these bytes
pub record IsScanned (d : Defs) (file : ScannedFile) (x : List ℕ) : Type 0 where
  pub long : file.length ≡ length x
  pub records : file.records ≡ length (readable d false x)
  pub places : ArePlacesOf (readable d false x) file.places.now

-- this was found of a data file, with the pairs of its rows where these are looked at
pub record HasRows (d : Defs) (with_keys : Bool) (rows : List ℕ) (r : RowsFound) : Type 0 where
  pub keys : with_keys ≡ true → r.keys ≡ pair_lists d (readable d false rows)
  pub records : r.records ≡ length (readable d false rows)
  pub split : r.split ≡ length (ranges_of (readable d false rows))
  pub places : ArePlacesOf (readable d false rows) r.places
  pub deleted : r.deleted ≡ deleted_places d rows
  pub ascends : IsRising r.deleted
  pub pointed : ArePointed d (length rows) r.deleted
  pub empty : r.empty ≡ total (table.deleted d rows)
  pub gap : r.gap ≡ rows_bad d rows
