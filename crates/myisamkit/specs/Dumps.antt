-- What a dump of a table prints and answers: its rows, where nothing is wrong with it.
use Rattle.std.specs.Prelude.{ℕ, false, List, [], ◌∷◌, ◌++◌, Result, Ok, Err}
use Rattle.myi_base.specs.Holding.{Holding}
use Rattle.myi_opening.specs.declared.fault.TableFault.{TableFault}
use Rattle.myi_opening.specs.Names.{rows_file, index_file}
use Rattle.myi_opening.specs.Opening as opening
use Rattle.myi_data.specs.Readable.{readable}
use Rattle.myi_pair.specs.declared.finding.HeaderItem.{HeaderItem}
use Rattle.myi_pair.specs.declared.finding.HeaderItem.TheVariants as item
use Rattle.myi_pair.specs.declared.finding.Finding.{Finding}
use Rattle.myi_pair.specs.declared.finding.Finding.TheVariants as finding
use Rattle.myi_pair.specs.Findings.{findings}
use Rattle.myi_dump.specs.RowLines.{row_lines}
use Rattle.myi_repair.specs.Faults.{repair_fault}
use Rattle.myisamkit.specs.declared.status.Status.{Status}
use Rattle.myisamkit.specs.declared.status.Status.TheVariants as status
use Rattle.myisamkit.specs.Lines.{fault_line, finding_line, refused_line, foreign}
use Rattle.myisamkit.specs.Turns.{Turn, fault_status}

-- a table without the mark is refused as a foreign one
abbrev pub item_reason : List ℕ → HeaderItem → List ℕ
item_reason name item.Mark = refused_line name foreign
item_reason name item.Records = []
item_reason name item.Del = []
item_reason name item.Split = []
item_reason name item.KeyFileLength = []
item_reason name item.DataFileLength = []
item_reason name item.Empty = []
item_reason name item.KeyEmpty = []

abbrev pub reason : List ℕ → Finding → List ℕ
reason name (finding.Header i) = item_reason name i
reason name (finding.Deleted at) = []
reason name (finding.Key key at) = []
reason name (finding.Rows at) = []

-- of what is found the first is told
abbrev pub dumped_text : List ℕ → opening.Table → List Finding → List ℕ
dumped_text name t [] = row_lines t.defs (readable t.defs false t.rows)
dumped_text name t (f ∷ fs) = finding_line name f ++ reason name f

abbrev pub dumped_status : List Finding → Status
dumped_status [] = status.Ok
dumped_status (f ∷ fs) = status.Refused

-- a table that is dumped keeps its files
abbrev pub dumped_turn : List ℕ → Result opening.Table TableFault → Holding → Turn
dumped_turn name (Err f) m = record { text = fault_line name (repair_fault f); status = fault_status (repair_fault f); files = m }
dumped_turn name (Ok t) m = record { text = dumped_text name t (findings t.defs t.rows t.index); status = dumped_status (findings t.defs t.rows t.index); files = m }

abbrev pub dump_turn : List ℕ → Holding → Turn
dump_turn name m = dumped_turn name (opening.table_in (index_file name) (rows_file name) m) m
