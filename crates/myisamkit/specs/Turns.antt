-- A table's turn in a run: what is said, answered and done, by the options and by what the files hold. Each mode has a case
-- in each definition.
use Rattle.std.specs.Prelude.{◌≡◌, ◌⊎◌, ◌+◌, ◌||◌, ◌&&◌, ℕ, Bool, true, false, List, [], ◌∷◌, ◌++◌, length, if◌then◌else◌, Some, None, Result, Ok, Err}
use Rattle.std.specs.Str.{bytes_eq}
use Rattle.myi_base.specs.Holding.{Holding}
use Rattle.myi_defs.specs.declared.types.Defs.{Defs}
use Rattle.myi_defs.specs.ReadDefs.{read_defs}
use Rattle.myi_opening.specs.declared.fault.TableFault.{TableFault}
use Rattle.myi_opening.specs.Names.{rows_file, index_file}
use Rattle.myi_opening.specs.Opening as opening
use Rattle.myi_pair.specs.declared.finding.Finding.{Finding}
use Rattle.myi_pair.specs.Clean.{IsClean}
use Rattle.myi_pair.specs.Findings.{findings}
use Rattle.myi_pair.specs.RecoveredBytes.{new_data, new_index}
use Rattle.myi_pair.specs.Recovered.{Recovered}
use Rattle.myi_check.specs.Checking.{findings_in}
use Rattle.myi_repair.specs.declared.fault.RepairFault.{RepairFault}
use Rattle.myi_repair.specs.declared.report.Report.{Report}
use Rattle.myi_repair.specs.declared.fault.RepairFault.TheVariants as repair
use Rattle.myi_repair.specs.Names.{FourNames, names_for, new_index_file, KeepsBut, KeepsBoth, Clears}
use Rattle.myi_repair.specs.Faults.{repair_fault, RoseAtMost}
use Rattle.myi_repair.specs.Opening.{Table, table_in, IsTable}
use Rattle.myi_repair.specs.Gathering.{report_of}
use Rattle.myi_repair.specs.Repaired as laid
use Rattle.myi_saferepair.specs.Recovered.{SafelyRecovered}
use Rattle.myi_saferepair.specs.Repaired as row_by_row
use Rattle.myi_order.specs.declared.fault.OrderFault.{OrderFault}
use Rattle.myi_order.specs.declared.fault.OrderFault.TheVariants as order
use Rattle.myi_order.specs.KeyParts.{key_parts}
use Rattle.myi_order.specs.Numbers.{all_per, IsAnalyzed}
use Rattle.myi_order.specs.Analyzing as analyzing
use Rattle.myi_order.specs.Sorting as sorting
use Rattle.myi_order.specs.Faults as analyzing_faults
use Rattle.myi_sortindex.specs.declared.fault.SortFault.{SortFault}
use Rattle.myi_sortindex.specs.declared.fault.SortFault.TheVariants as sort
use Rattle.myi_sortindex.specs.Refusals as index_sorting
use Rattle.myi_sortindex.specs.Sorting.{IsSorted, index_trees, sorted_index}
use Rattle.myi_sortindex.specs.Sorting as page_sorting
use Rattle.myisamkit.specs.declared.status.Status.{Status}
use Rattle.myisamkit.specs.declared.status.Status.TheVariants as status
use Rattle.myisamkit.specs.declared.status.Stop.{Stop}
use Rattle.myisamkit.specs.declared.status.Stop.TheVariants as stop
use Rattle.myisamkit.specs.declared.options.TreeWork.{TreeWork}
use Rattle.myisamkit.specs.declared.options.TreeWork.TheVariants.{InTurn, SideBySide, RowByRow}
use Rattle.myisamkit.specs.declared.options.Mode.{Mode}
use Rattle.myisamkit.specs.declared.options.Mode.TheVariants.{Check, Recover, Describe, Analyze, Sort, SortIndex}
use Rattle.myisamkit.specs.declared.options.Options.{Options}
use Rattle.myisamkit.specs.Lines.{recovered_line, fault_line, ok_line, finding_lines, analyzed_lines, sorted_line, order_line, sorted_pages_line, sort_index_line}
use Rattle.myisamkit.specs.Descriptions.{description}

-- what a turn comes to that nothing cuts off: its lines, its status, and what the files hold then, where that is defined (of trees
-- that are changed row by row it is not)
pub record Turn : Type 0 where
  pub text : List ℕ
  pub status : Status
  pub files : Holding

-- a turn and what comes after it
abbrev pub then_turn : Turn → Turn → Turn
then_turn first others = record { text = first.text ++ others.text; status = others.status; files = others.files }

-- ---- recover

-- the two files of a table hold these bytes, and the working files are gone
abbrev pub replaced : FourNames → List ℕ → List ℕ → Holding → Holding
replaced t d x m q =
    if bytes_eq q t.rows then Some d else
    (if bytes_eq q t.index then Some x else
    (if bytes_eq q t.new_rows || bytes_eq q t.new_index then None else m q))

-- the status of a fault
abbrev pub fault_status : RepairFault → Status
fault_status (repair.Absent f) = status.Absent
fault_status (repair.Def f) = status.Refused
fault_status repair.TooLong = status.Refused
fault_status repair.File = status.FileFault
fault_status repair.Memory = status.Memory

-- a line of success, where such lines are wanted
abbrev pub unless_silent : Bool → List ℕ → List ℕ
unless_silent silent line = if silent then [] else line

-- a table that cannot be repaired keeps its files
abbrev pub repair_turn : Options → ℕ → List ℕ → Result Table RepairFault → Holding → Turn
repair_turn o now name (Err f) m = record { text = fault_line name f; status = fault_status f; files = m }
repair_turn o now name (Ok t) m = record {
  text = unless_silent o.silent (recovered_line name (report_of t.0 o.extend t.1));
  status = status.Ok;
  files = replaced (names_for name) (new_data t.0 o.extend t.1) (new_index t.0 o.extend t.1 now) m;
}

abbrev pub recover_turn : Options → ℕ → List ℕ → Holding → Turn
recover_turn o now name m = repair_turn o now name (table_in (names_for name) m) m

-- nothing is wrong with a data file and an index file, under the definitions that the index file begins with
abbrev pub AreSound : List ℕ → List ℕ → Type 0
AreSound d x = (defs : Defs) × (read_defs x ≡ Ok defs) × (findings defs d x ≡ [])

-- trees are changed row by row
abbrev pub changes_rows : TreeWork → Bool
changes_rows InTurn = false
changes_rows SideBySide = false
changes_rows RowByRow = true

abbrev pub is_row_by_row : Mode → Bool
is_row_by_row Check = false
is_row_by_row (Recover trees) = changes_rows trees
is_row_by_row Describe = false
is_row_by_row Analyze = false
is_row_by_row (Sort key) = false
is_row_by_row SortIndex = false

-- what a repair makes of the index file, beside the new data file, is recovered: it is the defined one, but where trees were changed
-- row by row their pages may stand anywhere
abbrev pub MakesIndex : Bool → Options → ℕ → Defs → List ℕ → List ℕ → Type 0
MakesIndex false o now defs d x = (x ≡ new_index defs o.extend d now) × Recovered defs o.extend d now (new_data defs o.extend d) x
MakesIndex true o now defs d x = SafelyRecovered defs o.extend d now (new_data defs o.extend d) x

-- a table that can be repaired was: it has new files, with which nothing is wrong, and its working files are gone
pub record TableRepaired (o : Options) (now : ℕ) (name : List ℕ) (defs : Defs) (d : List ℕ) (m n : Holding) : Type 0 where
  pub index : List ℕ
  pub files : n ≡ replaced (names_for name) (new_data defs o.extend d) index m
  pub made : MakesIndex (is_row_by_row o.mode) o now defs d index
  pub sound : AreSound (new_data defs o.extend d) index

-- a table was repaired; one that cannot be repaired keeps its files
pub record RepairDone (o : Options) (now : ℕ) (name : List ℕ) (m n : Holding) : Type 0 where
  pub refused : (f : RepairFault) → table_in (names_for name) m ≡ Err f → n ≡ m
  pub repaired : (defs : Defs) (d : List ℕ) → IsTable (names_for name) defs d m → TableRepaired o now name defs d m n

-- a call that repairs left a table, and said this of it
abbrev pub LeavesRepaired : Bool → List ℕ → Bool → ℕ → Report → Holding → Holding → Type 0
LeavesRepaired false name extend now said m n = laid.LeavesRepaired name extend now said m n
LeavesRepaired true name extend now said m n = row_by_row.LeavesRepaired name extend now said m n

-- the files of a table are the old ones or whole new ones
abbrev pub OldOrNew : Bool → List ℕ → Bool → ℕ → Holding → Holding → Type 0
OldOrNew false name extend now m n = laid.OldOrNew name extend now m n
OldOrNew true name extend now m n = row_by_row.OldOrNew name extend now m n

-- A repair was cut off, the files' count of faults having risen from the one number to the other, of which the status tells
-- so many: the table's files are the old ones or whole new ones, and other files stay; nothing was changed, or no more working
-- files are left than file calls failed besides.
pub record RepairCutOff (o : Options) (now told before after : ℕ) (name : List ℕ) (m n : Holding) : Type 0 where
  pub whole : OldOrNew (is_row_by_row o.mode) name o.extend now m n
  pub others : KeepsBut (names_for name) m n
  pub cleared : (more : ℕ) → RoseAtMost (told + more) before after → Clears more (names_for name) m n

-- what a stop leaves of the turn of a table that is repaired
abbrev pub RepairStops : Options → ℕ → ℕ → ℕ → List ℕ → Stop → Holding → Holding → Type 0
RepairStops o now before after name stop.File m n = RepairCutOff o now 1 before after name m n
RepairStops o now before after name stop.Memory m n = RepairCutOff o now 0 before after name m n
RepairStops o now before after name stop.Sink m n = RepairDone o now name m n

-- ---- check

-- what is said of a table that is checked
abbrev pub checked_text : Options → List ℕ → Result (List Finding) TableFault → List ℕ
checked_text o name (Err f) = fault_line name (repair_fault f)
checked_text o name (Ok []) = unless_silent o.silent (ok_line name)
checked_text o name (Ok (f ∷ fs)) = finding_lines name (f ∷ fs)

abbrev pub checked_status : Result (List Finding) TableFault → Status
checked_status (Err f) = fault_status (repair_fault f)
checked_status (Ok []) = status.Ok
checked_status (Ok (f ∷ fs)) = status.Findings

-- something was found
abbrev pub has_findings : Result (List Finding) TableFault → Bool
has_findings (Err f) = false
has_findings (Ok []) = false
has_findings (Ok (f ∷ fs)) = true

-- a table that is checked keeps its files
abbrev pub checked_turn : Options → List ℕ → Holding → Turn
checked_turn o name m = record { text = checked_text o name (findings_in name m); status = checked_status (findings_in name m); files = m }

-- the check is followed by a repair: something was found, and a repair is forced
abbrev pub goes_on : Options → List ℕ → Holding → Bool
goes_on o name m = o.force && has_findings (findings_in name m)

-- the same options, with which not every position is tried
abbrev pub without_extend : Options → Options
without_extend o = record o { extend = false }

-- by whether a repair follows
abbrev pub check_turn_by : Bool → Options → ℕ → List ℕ → Holding → Turn
check_turn_by false o now name m = checked_turn o name m
check_turn_by true o now name m = then_turn (checked_turn o name m) (recover_turn (without_extend o) now name m)

abbrev pub check_turn : Options → ℕ → List ℕ → Holding → Turn
check_turn o now name m = check_turn_by (goes_on o name m) o now name m

abbrev pub CheckDoneBy : Bool → Options → ℕ → List ℕ → Holding → Holding → Type 0
CheckDoneBy false o now name m n = n ≡ m
CheckDoneBy true o now name m n = RepairDone (without_extend o) now name m n

-- a table was checked, and repaired where a repair follows
abbrev pub CheckDone : Options → ℕ → List ℕ → Holding → Holding → Type 0
CheckDone o now name m n = CheckDoneBy (goes_on o name m) o now name m n

-- it was cut off: where no repair follows nothing was changed
abbrev pub CheckCutOff : Bool → Options → ℕ → ℕ → ℕ → ℕ → List ℕ → Holding → Holding → Type 0
CheckCutOff false o now told before after name m n = n ≡ m
CheckCutOff true o now told before after name m n = RepairCutOff (without_extend o) now told before after name m n

-- what a stop leaves of the turn of a table that is checked: the lines on what was found are written before a repair begins
abbrev pub CheckStops : Options → ℕ → ℕ → ℕ → List ℕ → Stop → Holding → Holding → Type 0
CheckStops o now before after name stop.File m n = CheckCutOff (goes_on o name m) o now 1 before after name m n
CheckStops o now before after name stop.Memory m n = CheckCutOff (goes_on o name m) o now 0 before after name m n
CheckStops o now before after name stop.Sink m n = (n ≡ m) ⊎ CheckDone o now name m n

-- ---- description

abbrev pub described_text : Options → List ℕ → Result opening.Table TableFault → List ℕ
described_text o name (Err f) = fault_line name (repair_fault f)
described_text o name (Ok t) = unless_silent o.silent (description name t.defs)

abbrev pub described_status : Result opening.Table TableFault → Status
described_status (Err f) = fault_status (repair_fault f)
described_status (Ok t) = status.Ok

-- a table that is described keeps its files
abbrev pub describe_turn : Options → List ℕ → Holding → Turn
describe_turn o name m = record { text = described_text o name (opening.table_in (index_file name) (rows_file name) m); status = described_status (opening.table_in (index_file name) (rows_file name) m); files = m }

-- ---- analysis and sorting

-- the status of a fault
abbrev pub order_status : OrderFault → Status
order_status (order.Absent f) = status.Absent
order_status (order.Def f) = status.Refused
order_status (order.NoKey keys) = status.Refused
order_status (order.Damaged f) = status.Findings
order_status order.File = status.FileFault
order_status order.Memory = status.Memory

-- the index file of a table holds these bytes, and its working file is gone
abbrev pub with_index : List ℕ → List ℕ → Holding → Holding
with_index name x m q = if bytes_eq q (index_file name) then Some x else (if bytes_eq q (new_index_file name) then None else m q)

-- a table that is refused, or not there, or with which something is wrong keeps its files
abbrev pub analyzed_turn : Options → List ℕ → Result opening.Table OrderFault → Holding → Turn
analyzed_turn o name (Err f) m = record { text = order_line name 0 f; status = order_status f; files = m }
analyzed_turn o name (Ok t) m = record {
  text = unless_silent o.silent (analyzed_lines name (key_parts t.defs (analyzing.rows_in t)));
  status = status.Ok;
  files = with_index name (analyzing.analyzed_index t) m;
}

abbrev pub analyze_turn : Options → List ℕ → Holding → Turn
analyze_turn o name m = analyzed_turn o name (analyzing.table_in name m) m

-- of a table with which nothing is wrong the index file gets the numbers of its rows, and keeps all other bytes; it is clean again
abbrev pub StoresNumbers : List ℕ → Holding → Type 0
StoresNumbers name m = (t : opening.Table) → analyzing.table_in name m ≡ Ok t
    → IsAnalyzed t.defs (length (analyzing.rows_in t)) (all_per (key_parts t.defs (analyzing.rows_in t))) t.index (analyzing.analyzed_index t) × IsClean t.rows (analyzing.analyzed_index t)

-- a table was analyzed, or refused
pub record AnalyzeDone (o : Options) (name : List ℕ) (m n : Holding) : Type 0 where
  pub files : n ≡ (analyze_turn o name m).files
  pub numbers : StoresNumbers name m

-- No numbers were stored, the files' count of faults having risen from the one number to the other, of which the status tells
-- so many: both files of the table and all others are as before, but the working index file; it is not left where no other
-- file call failed.
pub record StoresNone (told before after : ℕ) (name : List ℕ) (m n : Holding) : Type 0 where
  pub both : analyzing.KeepsBoth name m n
  pub others : analyzing.OthersStay name m n
  pub cleared : RoseAtMost told before after → analyzing_faults.Clears (new_index_file name) m n

-- an analysis was cut off: no numbers were stored, or it was done, and memory for its lines was wanting, which tells of no fault
-- of a file
abbrev pub AnalyzeCutOff : Options → ℕ → ℕ → ℕ → List ℕ → Holding → Holding → Type 0
AnalyzeCutOff o told before after name m n = StoresNone told before after name m n ⊎ ((told ≡ 0) × AnalyzeDone o name m n)

-- what a stop leaves of the turn of a table that is analyzed
abbrev pub AnalyzeStops : Options → ℕ → ℕ → List ℕ → Stop → Holding → Holding → Type 0
AnalyzeStops o before after name stop.File m n = AnalyzeCutOff o 1 before after name m n
AnalyzeStops o before after name stop.Memory m n = AnalyzeCutOff o 0 before after name m n
AnalyzeStops o before after name stop.Sink m n = AnalyzeDone o name m n

-- a table that is refused, or not there, has no such key, or with which something is wrong, keeps its files
abbrev pub sorted_turn : Options → ℕ → ℕ → List ℕ → Result opening.Table OrderFault → Holding → Turn
sorted_turn o now key name (Err f) m = record { text = order_line name key f; status = order_status f; files = m }
sorted_turn o now key name (Ok t) m = record {
  text = unless_silent o.silent (sorted_line name key (sorting.report_of t key));
  status = status.Ok;
  files = replaced (names_for name) (sorting.sorted_data t key) (sorting.sorted_index t key now) m;
}

abbrev pub sort_turn : Options → ℕ → ℕ → List ℕ → Holding → Turn
sort_turn o now key name m = sorted_turn o now key name (sorting.table_in name key m) m

-- what sorting makes of a table is a table of the same rows in the order of the key, and nothing is wrong with it
abbrev pub IsSortedBy : ℕ → ℕ → List ℕ → Holding → Type 0
IsSortedBy now key name m = (t : opening.Table) → sorting.table_in name key m ≡ Ok t
    → sorting.Ordered t key now (sorting.sorted_data t key) (sorting.sorted_index t key now) × AreSound (sorting.sorted_data t key) (sorting.sorted_index t key now)

-- a table was sorted, or refused
pub record SortDone (o : Options) (now key : ℕ) (name : List ℕ) (m n : Holding) : Type 0 where
  pub files : n ≡ (sort_turn o now key name m).files
  pub sorted : IsSortedBy now key name m

-- sorting was cut off, as a repair may be
pub record SortCutOff (now key told before after : ℕ) (name : List ℕ) (m n : Holding) : Type 0 where
  pub whole : sorting.OldOrNew name key now m n
  pub others : KeepsBut (names_for name) m n
  pub cleared : (more : ℕ) → RoseAtMost (told + more) before after → Clears more (names_for name) m n

-- what a stop leaves of the turn of a table that is sorted
abbrev pub SortStops : Options → ℕ → ℕ → ℕ → ℕ → List ℕ → Stop → Holding → Holding → Type 0
SortStops o now key before after name stop.File m n = SortCutOff now key 1 before after name m n
SortStops o now key before after name stop.Memory m n = SortCutOff now key 0 before after name m n
SortStops o now key before after name stop.Sink m n = SortDone o now key name m n

-- ---- sorting of pages

-- the status of a fault
abbrev pub sort_index_status : SortFault → Status
sort_index_status (sort.Absent f) = status.Absent
sort_index_status (sort.Def f) = status.Refused
sort_index_status (sort.Damaged f) = status.Findings
sort_index_status sort.File = status.FileFault
sort_index_status sort.Memory = status.Memory

-- a table that is refused, or not there, or with which something is wrong keeps its files
abbrev pub pages_turn : Options → List ℕ → Result opening.Table SortFault → Holding → Turn
pages_turn o name (Err f) m = record { text = sort_index_line name f; status = sort_index_status f; files = m }
pages_turn o name (Ok t) m = record {
  text = unless_silent o.silent (sorted_pages_line name (index_trees t.defs t.index).pages);
  status = status.Ok;
  files = with_index name (sorted_index t.defs t.index) m;
}

abbrev pub sort_index_turn : Options → List ℕ → Holding → Turn
sort_index_turn o name m = pages_turn o name (index_sorting.table_in name m) m

-- of a table with which nothing is wrong the index file gets the same trees, whose pages are sorted, and is clean again
abbrev pub SortsPages : List ℕ → Holding → Type 0
SortsPages name m = (t : opening.Table) → index_sorting.table_in name m ≡ Ok t → IsSorted t.rows t.index (sorted_index t.defs t.index) (index_trees t.defs t.index).pages

-- the pages of a table were sorted, or it was refused
pub record SortIndexDone (o : Options) (name : List ℕ) (m n : Holding) : Type 0 where
  pub files : n ≡ (sort_index_turn o name m).files
  pub sorted : SortsPages name m

-- No pages were sorted, the files' count of faults having risen from the one number to the other, of which the status tells
-- so many: both files of the table and all others are as before, but the working index file; it is not left where no other
-- file call failed.
pub record SortsNone (told before after : ℕ) (name : List ℕ) (m n : Holding) : Type 0 where
  pub both : KeepsBoth (names_for name) m n
  pub others : page_sorting.OthersStay name m n
  pub cleared : RoseAtMost told before after → index_sorting.Clears (new_index_file name) m n

-- sorting of pages was cut off: none were sorted, or it was done, and memory for its line was wanting, which tells of no fault of
-- a file
abbrev pub SortIndexCutOff : Options → ℕ → ℕ → ℕ → List ℕ → Holding → Holding → Type 0
SortIndexCutOff o told before after name m n = SortsNone told before after name m n ⊎ ((told ≡ 0) × SortIndexDone o name m n)

-- what a stop leaves of the turn of a table whose pages are sorted
abbrev pub SortIndexStops : Options → ℕ → ℕ → List ℕ → Stop → Holding → Holding → Type 0
SortIndexStops o before after name stop.File m n = SortIndexCutOff o 1 before after name m n
SortIndexStops o before after name stop.Memory m n = SortIndexCutOff o 0 before after name m n
SortIndexStops o before after name stop.Sink m n = SortIndexDone o name m n

-- that something was found may be answered by a check with these options, without force, by an analysis, and where rows or
-- pages are to be sorted
abbrev pub MayFind : Options → Type 0
MayFind o = ((o.mode ≡ Check) × (o.force ≡ false)) ⊎ ((o.mode ≡ Analyze) ⊎ ((o.mode ≡ SortIndex) ⊎ ((key : ℕ) × (o.mode ≡ Sort key))))

-- ---- all modes: how a repair makes trees makes no difference to lines and status

abbrev pub turn_by : Mode → Options → ℕ → List ℕ → Holding → Turn
turn_by (Recover trees) o now name m = recover_turn o now name m
turn_by Check o now name m = check_turn o now name m
turn_by Describe o now name m = describe_turn o name m
turn_by Analyze o now name m = analyze_turn o name m
turn_by (Sort key) o now name m = sort_turn o now key name m
turn_by SortIndex o now name m = sort_index_turn o name m

-- the turn of the table of this name
unfoldable pub turn : Options → ℕ → List ℕ → Holding → Turn
turn o now name m = turn_by o.mode o now name m

abbrev pub TurnDoneBy : Mode → Options → ℕ → List ℕ → Holding → Holding → Type 0
TurnDoneBy (Recover trees) o now name m n = RepairDone o now name m n
TurnDoneBy Check o now name m n = CheckDone o now name m n
TurnDoneBy Describe o now name m n = n ≡ m
TurnDoneBy Analyze o now name m n = AnalyzeDone o name m n
TurnDoneBy (Sort key) o now name m n = SortDone o now key name m n
TurnDoneBy SortIndex o now name m n = SortIndexDone o name m n

-- a table had its turn: what is repaired in it is recovered, what is analyzed stores its numbers, and rows and pages that are sorted are
-- in order
unfoldable pub TurnDone : Options → ℕ → List ℕ → Holding → Holding → Type 0
TurnDone o now name m n = TurnDoneBy o.mode o now name m n

abbrev pub CutsTurnOffBy : Mode → Options → ℕ → ℕ → ℕ → ℕ → List ℕ → Holding → Holding → Type 0
CutsTurnOffBy (Recover trees) o now told before after name m n = RepairCutOff o now told before after name m n
CutsTurnOffBy Check o now told before after name m n = CheckCutOff (goes_on o name m) o now told before after name m n
CutsTurnOffBy Describe o now told before after name m n = n ≡ m
CutsTurnOffBy Analyze o now told before after name m n = AnalyzeCutOff o told before after name m n
CutsTurnOffBy (Sort key) o now told before after name m n = SortCutOff now key told before after name m n
CutsTurnOffBy SortIndex o now told before after name m n = SortIndexCutOff o told before after name m n

-- a file fault or want of memory cut the turn off
unfoldable pub CutsTurnOff : Options → ℕ → ℕ → ℕ → ℕ → List ℕ → Holding → Holding → Type 0
CutsTurnOff o now told before after name m n = CutsTurnOffBy o.mode o now told before after name m n

-- the output failed in a turn: a repair, an analysis and sorting are done before their lines are written, but the lines on what a check found are written
-- before a repair begins
abbrev pub FailsInTurnBy : Mode → Options → ℕ → List ℕ → Holding → Holding → Type 0
FailsInTurnBy (Recover trees) o now name m n = TurnDone o now name m n
FailsInTurnBy Check o now name m n = (n ≡ m) ⊎ TurnDone o now name m n
FailsInTurnBy Describe o now name m n = n ≡ m
FailsInTurnBy Analyze o now name m n = TurnDone o now name m n
FailsInTurnBy (Sort key) o now name m n = TurnDone o now name m n
FailsInTurnBy SortIndex o now name m n = TurnDone o now name m n

unfoldable pub FailsInTurn : Options → ℕ → List ℕ → Holding → Holding → Type 0
FailsInTurn o now name m n = FailsInTurnBy o.mode o now name m n

-- what a stop leaves of a turn
abbrev pub TurnStops : Options → ℕ → ℕ → ℕ → List ℕ → Stop → Holding → Holding → Type 0
TurnStops o now before after name stop.File m n = CutsTurnOff o now 1 before after name m n
TurnStops o now before after name stop.Memory m n = CutsTurnOff o now 0 before after name m n
TurnStops o now before after name stop.Sink m n = FailsInTurn o now name m n
