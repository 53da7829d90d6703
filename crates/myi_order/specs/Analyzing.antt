-- Whether a table can be analyzed, what an analysis answers and leaves, or why it is refused.
use Rattle.std.specs.Prelude.{◌≡◌, ◌≢◌, ℕ, false, List, [], ◌∷◌, length, map, Option, Some, None, Result, Ok, Err}
use Rattle.myi_base.specs.Holding.{Holding, IfTold}
use Rattle.myi_opening.specs.declared.fault.TableFault.{TableFault}
use Rattle.myi_opening.specs.Names.{rows_file, index_file}
use Rattle.myi_opening.specs.Opening.{Table}
use Rattle.myi_opening.specs.Opening as opening
use Rattle.myi_pack.specs.Packed.{Values}
use Rattle.myi_data.specs.Readable.{readable}
use Rattle.myi_pair.specs.declared.finding.Finding.{Finding}
use Rattle.myi_pair.specs.Clean.{values_of, IsClean}
use Rattle.myi_pair.specs.Findings.{findings}
use Rattle.myi_repair.specs.Names.{new_index_file}
use Rattle.myi_order.specs.declared.fault.OrderFault.{OrderFault}
use Rattle.myi_order.specs.declared.fault.OrderFault.TheVariants.{Damaged}
use Rattle.myi_order.specs.declared.key_parts.KeyParts.{KeyParts}
use Rattle.myi_order.specs.Faults.{order_fault}
use Rattle.myi_order.specs.KeyParts.{key_parts}
use Rattle.myi_header.specs.Analysis.{with_numbers, IsAnalyzed}
use Rattle.myi_order.specs.Numbers.{all_per}

-- by what is wrong with its files
abbrev pub clean_by : Table → List Finding → Result Table OrderFault
clean_by t [] = Ok t
clean_by t (found ∷ others) = Err (Damaged found)

-- by the table that was opened, or why it was not
abbrev pub table_by : Result Table TableFault → Result Table OrderFault
table_by (Err f) = Err (order_fault f)
table_by (Ok t) = clean_by t (findings t.defs t.rows t.index)

-- the table of this name, with whose files nothing is wrong, or why it is refused
unfoldable pub table_in : List ℕ → Holding → Result Table OrderFault
table_in name m = table_by (opening.table_in (index_file name) (rows_file name) m)

-- the table is refused for this reason
abbrev pub Refuses : List ℕ → OrderFault → Holding → Type 0
Refuses name fault m = table_in name m ≡ Err fault

-- it is refused for this reason, and nothing is changed
pub record IsRefused (name : List ℕ) (fault : OrderFault) (old new : Option Holding) : Type 0 where
  pub reason : IfTold old (Refuses name fault)
  pub same : new ≡ old

-- the values of its readable rows
abbrev pub rows_in : Table → List Values
rows_in t = map (values_of t.defs) (readable t.defs false t.rows)

-- its index file with the numbers of its rows
abbrev pub analyzed_index : Table → List ℕ
analyzed_index t = with_numbers t.defs (length (rows_in t)) (all_per (key_parts t.defs (rows_in t))) t.index

-- The answer is the rows per prefix of the table's keys. The index file has their numbers, and all other bytes that it had; so the
-- table is clean again. The working file is gone.
pub record Analyzes (name : List ℕ) (parts : List KeyParts) (m n : Holding) : Type 0 where
  pub table : Table
  pub is : table_in name m ≡ Ok table
  pub answer : parts ≡ key_parts table.defs (rows_in table)
  pub stored : n (index_file name) ≡ Some (analyzed_index table)
  pub numbers : IsAnalyzed table.defs (length (rows_in table)) (all_per (key_parts table.defs (rows_in table))) table.index (analyzed_index table)
  pub clean : IsClean table.rows (analyzed_index table)
  pub gone : n (new_index_file name) ≡ None

-- both files are as before
pub record KeepsBoth (name : List ℕ) (m n : Holding) : Type 0 where
  pub rows : n (rows_file name) ≡ m (rows_file name)
  pub index : n (index_file name) ≡ m (index_file name)

-- files of other names than the index file and the working file hold what they held
abbrev pub OthersStay : List ℕ → Holding → Holding → Type 0
OthersStay name m n = (q : List ℕ) → q ≢ index_file name → q ≢ new_index_file name → n q ≡ m q
