-- Whether the rows of a table can be sorted by a key, what sorting leaves and says, or why it is refused (MySQL Reference Manual,
-- "myisamchk Other Options", `--sort-records`).
use Rattle.std.specs.Prelude.{◌≡◌, ◌≤◌, ◌&&◌, nat_lt, nat_le, ℕ, Bool, false, if◌then◌else◌, List, length, map, Option, Result, Ok, Err}
use Rattle.myi_base.specs.Holding.{Holding, IfTold}
use Rattle.myi_defs.specs.declared.types.Defs.{Defs}
use Rattle.myi_opening.specs.declared.fault.TableFault.{TableFault}
use Rattle.myi_opening.specs.Names.{rows_file, index_file}
use Rattle.myi_opening.specs.Opening.{Table}
use Rattle.myi_opening.specs.Opening as opening
use Rattle.myi_data.specs.Readable.{readable}
use Rattle.myi_data.specs.Stored.{SizedRow, stored_file}
use Rattle.myi_pair.specs.Clean.{sized_row}
use Rattle.myi_pair.specs.Findings.{findings}
use Rattle.myi_pair.specs.RebuiltBytes.{rebuilt_index}
use Rattle.myi_pair.specs.Rebuilt.{Rebuilt}
use Rattle.myi_repair.specs.declared.report.Report.{Report}
use Rattle.myi_repair.specs.Names.{names_for, KeepsBoth, Holds}
use Rattle.myi_repair.specs.Finishing.{IsWhole}
use Rattle.myi_order.specs.declared.fault.OrderFault.{OrderFault}
use Rattle.myi_order.specs.declared.fault.OrderFault.TheVariants.{NoKey}
use Rattle.myi_order.specs.Faults.{order_fault}
use Rattle.myi_order.specs.Analyzing.{clean_by}
use Rattle.myi_order.specs.InOrder.{in_order, IsInOrder}

-- there is a key of that number
abbrev pub has_key : Defs → ℕ → Bool
has_key d k = nat_lt 0 k && nat_le k (length d.keys)

-- by whether it has the key, and then by what is wrong with its files
abbrev pub keyed_by : ℕ → Table → Result Table OrderFault
keyed_by k t = if has_key t.defs k then clean_by t (findings t.defs t.rows t.index) else Err (NoKey (length t.defs.keys))

-- by the table that was opened, or why it was not
abbrev pub table_by : ℕ → Result Table TableFault → Result Table OrderFault
table_by k (Err f) = Err (order_fault f)
table_by k (Ok t) = keyed_by k t

-- the table of this name, which has a key of that number and with whose files nothing is wrong, or why it is refused
unfoldable pub table_in : List ℕ → ℕ → Holding → Result Table OrderFault
table_in name k m = table_by k (opening.table_in (index_file name) (rows_file name) m)

-- it is refused for this reason, and nothing is changed
pub record IsRefused (name : List ℕ) (k : ℕ) (fault : OrderFault) (old new : Option Holding) : Type 0 where
  pub reason : IfTold old (λ m. table_in name k m ≡ Err fault)
  pub same : new ≡ old

-- its readable rows in the order of the key, with the sizes of their blocks
abbrev pub rows_of : Defs → ℕ → List ℕ → List SizedRow
rows_of d k x = map (sized_row d) (in_order d k (readable d false x))

abbrev pub sorted_rows : Table → ℕ → List SizedRow
sorted_rows t k = rows_of t.defs k t.rows

-- its data file and its index file, made anew of these rows
abbrev pub sorted_data : Table → ℕ → List ℕ
sorted_data t k = stored_file t.defs (sorted_rows t k)

abbrev pub sorted_index : Table → ℕ → ℕ → List ℕ
sorted_index t k now = rebuilt_index t.defs (sorted_rows t k) now

-- what is said of sorting it
abbrev pub report_of : Table → ℕ → Report
report_of t k = record {
  kept = length (sorted_rows t k);
  repeats = 0;
  old_length = length t.rows;
  new_length = length (sorted_data t k);
}

-- The files (e, y) are a clean table of the same rows, in the order of the key (that e has them so is `rebuilt.read`), each
-- stored anew; the data file is no longer than it was.
pub record Ordered (t : Table) (k now : ℕ) (e y : List ℕ) : Type 0 where
  pub rows : IsInOrder t.defs k (readable t.defs false t.rows) (in_order t.defs k (readable t.defs false t.rows))
  pub shorter : length e ≤ length t.rows
  pub rebuilt : Rebuilt t.defs (sorted_rows t k) now e y

-- the table can be sorted, and its files are so; the working files are gone, and this is said of it
pub record LeavesOrdered (name : List ℕ) (k now : ℕ) (said : Report) (m n : Holding) : Type 0 where
  pub table : Table
  pub is : table_in name k m ≡ Ok table
  pub holds : Holds (names_for name) (sorted_data table k) (sorted_index table k now) n
  pub ordered : Ordered table k now (sorted_data table k) (sorted_index table k now)
  pub report : said ≡ report_of table k

-- the files of a table that is refused are the old ones; of another the data file may be the new one, beside the old
-- index file or the new one
abbrev pub OldOrNewOf : List ℕ → ℕ → ℕ → Result Table OrderFault → Holding → Holding → Type 0
OldOrNewOf name k now (Err f) m n = KeepsBoth (names_for name) m n
OldOrNewOf name k now (Ok t) m n = IsWhole (names_for name) (sorted_data t k) (sorted_index t k now) m n

abbrev pub OldOrNew : List ℕ → ℕ → ℕ → Holding → Holding → Type 0
OldOrNew name k now m n = OldOrNewOf name k now (table_in name k m) m n
