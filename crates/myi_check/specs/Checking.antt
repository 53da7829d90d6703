-- What a check of a table answers: what is wrong with its two files, or why the table is not opened.
use Rattle.std.specs.Prelude.{◌≡◌, ℕ, List, Result, Ok, Err}
use Rattle.myi_base.specs.Holding.{Holding}
use Rattle.myi_opening.specs.declared.fault.TableFault.{TableFault}
use Rattle.myi_opening.specs.Names.{rows_file, index_file}
use Rattle.myi_opening.specs.Opening.{Table, table_in}
use Rattle.myi_pair.specs.declared.finding.Finding.{Finding}
use Rattle.myi_pair.specs.Findings.{findings}

abbrev pub findings_by : Result Table TableFault → Result (List Finding) TableFault
findings_by (Err f) = Err f
findings_by (Ok t) = Ok (findings t.defs t.rows t.index)

-- what is found of the table of this name, or why it is not opened
unfoldable pub findings_in : List ℕ → Holding → Result (List Finding) TableFault
findings_in name m = findings_by (table_in (index_file name) (rows_file name) m)

-- this is found of the table of this name
abbrev pub Finds : List ℕ → List Finding → Holding → Type 0
Finds name found m = findings_in name m ≡ Ok found

-- nothing is looked for, for this reason
abbrev pub Refuses : List ℕ → TableFault → Holding → Type 0
Refuses name fault m = findings_in name m ≡ Err fault

-- this is found of the table of the files of these two names
abbrev pub AreFindings : List ℕ → List ℕ → List Finding → Holding → Type 0
AreFindings index rows found m = findings_by (table_in index rows m) ≡ Ok found
