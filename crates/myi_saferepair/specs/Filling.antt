-- The rows that came so far, those of them that were written, and the trees with their pairs.
use Rattle.std.specs.Prelude.{◌≡◌, ◌≢◌, ◌+◌, ◌≤◌, ◌<◌, ◌^◌, ℕ, Bool, true, false, not, List, [], ◌∷◌, ◌++◌, length, map, Option, Some, None}
use Rattle.std.specs.List.{AllByRecursion, list_any}
use Rattle.myi_base.specs.Holding.{Holding, bytes_of}
use Rattle.myi_base.specs.Numbers.{AreBytes, pointer_number}
use Rattle.myi_defs.specs.declared.types.Defs.{Defs}
use Rattle.myi_defs.specs.Addressable.{is_addressable}
use Rattle.myi_header.specs.Layout.{first_page_of}
use Rattle.myi_header.specs.StateOf.{IsPlace}
use Rattle.myi_btree.specs.declared.place.Place.{Place}
use Rattle.myi_data.specs.Scanning.{TableScan}
use Rattle.myi_data.specs.Stored.{SizedRow, stored_file, block_count}
use Rattle.myi_insertion.specs.Covers.{stock}
use Rattle.myi_insertion.specs.Rooms.{IsWhole}
use Rattle.myi_keytrees.specs.Trees.{Trees, kinds}
use Rattle.myi_keytrees.specs.Standing.{Stand}
use Rattle.myi_keytrees.specs.InFile.{StandIn, bytes_of_pages}
use Rattle.myi_pair.specs.FirstRows.{key_numbers, repeats_row, first_rows}
use Rattle.myi_pair.specs.Trees.{place_of}
use Rattle.myi_pair.specs.RebuiltBytes.{placed_from, key_lists}
use Rattle.myi_pair.specs.RecoveredBytes.{kept, new_data}
use Rattle.myi_rowtrees.specs.Places.{places_of}
use Rattle.myi_repair.specs.Names.{FourNames}
use Rattle.myi_repair.specs.Opening.{IsTable}
use Rattle.myi_repair.specs.Keeping.{IsPrepared, AreStorable, HasWritten}
use Rattle.myi_repair.specs.Gathering.{report_of, sized_ahead, all_chosen}
use Rattle.myi_repair.specs.declared.report.Report.{Report}
use Rattle.myi_repair.specs.declared.next_row.NextRow.{NextRow}
use Rattle.myi_saferepair.specs.declared.new_files.NewFiles.{NewFiles}
use Rattle.myi_saferepair.specs.declared.filling.Filled.{Filled}

-- all bytes from a place on are free
abbrev pub free_from : ℕ → ℕ → ℕ
free_from first x = stock (record { end = first; free = [] }) x

-- the trees have the pairs of these rows, stored one after the other
abbrev pub TreesHold : Defs → List SizedRow → Trees → Holding → Type 0
TreesHold d rows trees m = Stand trees m (free_from (first_page_of d)) (key_lists d (placed_from d 0 rows))

-- the new data file has these rows, and the trees have their pairs
pub record HoldsRows (d : Defs) (file : List ℕ) (rows : List SizedRow) (trees : Trees) (m : Holding) : Type 0 where
  pub stored : m file ≡ Some (stored_file d rows)
  pub hold : TreesHold d rows trees m

-- the trees have the pairs of some rows
abbrev pub HoldsSome : Defs → NewFiles → Holding → Type 0
HoldsSome d new m = (rows : List SizedRow) × TreesHold d rows new.trees m

-- the trees are made as those of the table's keys, and row pointers reach the new data file
pub record IsFit (d : Defs) (new : NewFiles) : Type 0 where
  pub kinds : kinds new.trees.places ≡ map (place_of d) (key_numbers d)
  pub whole : IsWhole new.trees.room
  pub reached : is_addressable d new.rows.end ≡ true

-- no row was written yet, and no pair put into the trees, which will stand in the file of this name
pub record IsFresh (d : Defs) (index : List ℕ) (new : NewFiles) : Type 0 where
  pub fit : IsFit d new
  pub name : new.trees.cache.name ≡ index
  pub written : HasWritten d all_chosen [] new.rows
  pub room : new.trees.room ≡ record { end = first_page_of d; free = [] }
  pub empty : AllByRecursion (λ (p : Place). p.root ≡ None) new.trees.places
  pub stand : (m : Holding) → TreesHold d [] new.trees m

-- files of other names than these two hold what they held
abbrev pub WritesBoth : List ℕ → List ℕ → Holding → Holding → Type 0
WritesBoth file index m n = (q : List ℕ) → q ≢ file → q ≢ index → n q ≡ m q

-- a row more, where it is one that is kept
abbrev pub with_row : Bool → List SizedRow → SizedRow → List SizedRow
with_row true rows row = rows ++ row ∷ []
with_row false rows row = rows

-- the row repeats none of these
abbrev pub is_first : Defs → List SizedRow → SizedRow → Bool
is_first d rows row = not (list_any (repeats_row d row) rows)

-- a row came behind those that were written, and it was kept or not
abbrev pub Takes : Defs → List ℕ → NextRow → Bool → NewFiles → NewFiles → Holding → Holding → Type 0
Takes d file next keeps old new m n =
    (row : SizedRow) (rows : List SizedRow) → IsPrepared d row next → HasWritten d all_chosen rows old.rows → AreStorable d (rows ++ row ∷ []) → HoldsRows d file rows old.trees m
    → (keeps ≡ is_first d rows row) × HoldsRows d file (with_row keeps rows row) new.trees n

-- what was written stays known
abbrev pub StaysWritten : Defs → NextRow → Bool → NewFiles → NewFiles → Type 0
StaysWritten d next keeps old new = (row : SizedRow) (rows : List SizedRow) → IsPrepared d row next → HasWritten d all_chosen rows old.rows → HasWritten d all_chosen (with_row keeps rows row) new.rows

-- the rows that a scan had left are these, of which the first of unique keys were written
pub record Took (d : Defs) (scan : TableScan) (file : List ℕ) (repeats : ℕ) (new : NewFiles) (m n : Holding) : Type 0 where
  pub came : List SizedRow
  pub all : came ≡ sized_ahead scan m
  pub few : length came ≤ scan.end
  pub written : HasWritten d all_chosen (first_rows d came) new.rows
  pub count : length (first_rows d came) + repeats ≡ length came
  pub holds : HoldsRows d file (first_rows d came) new.trees n

-- the trees stand in the bytes of the index file, one for each key, with the pairs of these rows, and fill it from the first page place up to a place
pub record HasTrees (d : Defs) (roots : List (Option ℕ)) (end : ℕ) (rows : List SizedRow) (x : List ℕ) : Type 0 where
  pub pages : List (List ℕ)
  pub stand : StandIn x (first_page_of d) end (places_of d roots) (key_lists d (placed_from d 0 rows)) pages
  pub full : bytes_of_pages (places_of d roots) pages + first_page_of d ≡ end

-- a root that can be stored
abbrev pub RootFits : Option ℕ → Type 0
RootFits root = IsPlace root × (pointer_number root < 256 ^ 8)

-- the working files of a table hold the rows that a repair keeps and the trees with their pairs; this is said of it, and these are the
-- number of its blocks, the roots and the place behind the pages
pub record FillsWith (t : FourNames) (extend : Bool) (d : Defs) (said : Report) (blocks : ℕ) (roots : List (Option ℕ)) (end : ℕ) (m n : Holding) : Type 0 where
  pub data_file : List ℕ
  pub table : IsTable t d data_file m
  pub bytes : AreBytes data_file
  pub stored : n t.new_rows ≡ Some (new_data d extend data_file)
  pub report : said ≡ report_of d extend data_file
  pub split : blocks ≡ block_count d (kept d extend data_file)
  pub few_rows : said.kept < 256 ^ 8
  pub few_blocks : blocks < 256 ^ 8
  pub short : said.new_length < 256 ^ 8
  pub trees : HasTrees d roots end (kept d extend data_file) (bytes_of t.new_index n)

abbrev pub Fills : FourNames → Bool → Filled → Holding → Holding → Type 0
Fills t extend f m n = FillsWith t extend f.gathered.defs f.gathered.report f.gathered.split f.roots.items f.end m n
