-- What gathering leaves and answers.
use Rattle.std.specs.Prelude.{◌≡◌, ◌<◌, ◌≤◌, ℕ, Bool, true, false, List, [], ◌∷◌, length, map, Option, Some}
use Rattle.myi_base.specs.Holding.{Holding, IfTold, Told}
use Rattle.myi_base.specs.Numbers.{AreBytes}
use Rattle.myi_defs.specs.declared.types.Defs.{Defs}
use Rattle.myi_keylist.specs.declared.pair.Pair.{Pair}
use Rattle.myi_keylist.specs.PairOrder.{sorted}
use Rattle.myi_data.specs.Stored.{SizedRow, stored_file, block_count}
use Rattle.myi_data.specs.Scanning.{TableScan, rows_ahead}
use Rattle.myi_rowkeys.specs.RowLists.{number_pairs}
use Rattle.myi_pair.specs.Clean.{sized_row}
use Rattle.myi_pair.specs.RebuiltBytes.{placed_from, key_lists}
use Rattle.myi_pair.specs.RecoveredBytes.{kept, repeat_count, new_data}
use Rattle.myi_repair.specs.declared.report.Report.{Report}
use Rattle.myi_repair.specs.declared.next_row.NextRow.{NextRow}
use Rattle.myi_repair.specs.declared.new_rows.NewRows.{NewRows}
use Rattle.myi_repair.specs.declared.gathering.Gathered.{Gathered}
use Rattle.myi_repair.specs.Names.{FourNames}
use Rattle.myi_repair.specs.Opening.{IsTable}
use Rattle.myi_repair.specs.Keeping.{IsPrepared, AreStorable, HasWritten, chosen}

-- what is said of a repair of this data file
abbrev pub report_of : Defs → Bool → List ℕ → Report
report_of defs extend d = record {
  kept = length (kept defs extend d);
  repeats = repeat_count defs extend d;
  old_length = length d;
  new_length = length (new_data defs extend d);
}

-- the numbers and the pairs are those of a table of these rows
pub record IsOfRows (rows : List SizedRow) (g : Gathered) : Type 0 where
  pub kept : g.report.kept ≡ length rows
  pub split : g.split ≡ block_count g.defs rows
  pub long : g.report.new_length ≡ length (stored_file g.defs rows)
  -- in any order
  pub pairs : map sorted g.pairs ≡ key_lists g.defs (placed_from g.defs 0 rows)

-- this was gathered of a data file, and the working data file holds its kept rows
pub record IsGathered (t : FourNames) (extend : Bool) (d : List ℕ) (g : Gathered) (n : Holding) : Type 0 where
  pub bytes : AreBytes d
  pub written : n t.new_rows ≡ Some (new_data g.defs extend d)
  pub report : g.report ≡ report_of g.defs extend d
  pub split : g.split ≡ block_count g.defs (kept g.defs extend d)
  -- in any order
  pub pairs : map sorted g.pairs ≡ key_lists g.defs (placed_from g.defs 0 (kept g.defs extend d))

-- this was gathered of the table
abbrev pub Gathers : FourNames → Bool → Gathered → Holding → Holding → Type 0
Gathers t extend g m n = (d : List ℕ) × IsTable t g.defs d m × IsGathered t extend d g n

-- ---- the rows of a scan

-- the rows that a scan has left, with the sizes of their blocks
abbrev pub sized_ahead : TableScan → Holding → List SizedRow
sized_ahead s m = map (sized_row s.test) (rows_ahead s m)

-- a row was read, the first that was left; the others are left
pub record Reads (d : Defs) (told : Option Holding) (s t : TableScan) (next : NextRow) : Type 0 where
  pub row : SizedRow
  pub prepared : IsPrepared d row next
  pub rises : s.place < t.place
  pub within : t.place ≤ t.end
  pub first : IfTold told (λ m. sized_ahead s m ≡ row ∷ sized_ahead t m)

-- a row was read, or none was left
abbrev pub ReadsIf : Bool → Defs → Option Holding → TableScan → TableScan → NextRow → Type 0
ReadsIf true d told s t next = Reads d told s t next
ReadsIf false d told s t next = IfTold told (λ m. sized_ahead s m ≡ [])

-- the rows that a scan had left are these, and the file holds the chosen ones if all can be stored
pub record HasTaken (d : Defs) (s : TableScan) (file : List ℕ) (choose : ℕ → Bool) (rows : List SizedRow) (w : NewRows) (old new : Option Holding) : Type 0 where
  pub written : HasWritten d choose rows w
  pub few : length rows ≤ s.end
  pub told : Told old new (λ m n. (rows ≡ sized_ahead s m) × (AreStorable d rows → n file ≡ Some (stored_file d (chosen choose rows))))

-- some rows came, and the chosen ones were written
abbrev pub TakesChosen : Defs → TableScan → List ℕ → (ℕ → Bool) → NewRows → Option Holding → Option Holding → Type 0
TakesChosen d s file choose w old new = (rows : List SizedRow) × HasTaken d s file choose rows w old new

-- all are chosen
abbrev pub all_chosen : ℕ → Bool
all_chosen number = true

-- rows came, all were written, and the lists have the pairs of their keys by their numbers
abbrev pub TakesAll : Defs → TableScan → List ℕ → NewRows → List (List Pair) → Option Holding → Option Holding → Type 0
TakesAll d s file w lists old new = (rows : List SizedRow) × HasTaken d s file all_chosen rows w old new × (lists ≡ number_pairs d rows)
