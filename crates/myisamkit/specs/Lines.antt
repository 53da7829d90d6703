-- The lines that a command prints (the texts are this project's own).
use Rattle.std.specs.Prelude.{ℕ, List, [], ◌++◌, codes, decimal}
use Rattle.std.specs.List.{flat_map}
use Rattle.myi_defs.specs.declared.types.DefFault.{DefFault}
use Rattle.myi_defs.specs.declared.types.DefFault.TheVariants as fault
use Rattle.myi_pair.specs.declared.finding.HeaderItem.{HeaderItem}
use Rattle.myi_pair.specs.declared.finding.HeaderItem.TheVariants as item
use Rattle.myi_pair.specs.declared.finding.Finding.{Finding}
use Rattle.myi_pair.specs.declared.finding.Finding.TheVariants as finding
use Rattle.myi_repair.specs.declared.report.Report.{Report}
use Rattle.myi_repair.specs.declared.fault.RepairFault.{RepairFault}
use Rattle.myi_repair.specs.declared.fault.RepairFault.TheVariants as repair
use Rattle.myi_order.specs.declared.fault.OrderFault.{OrderFault}
use Rattle.myi_order.specs.declared.fault.OrderFault.TheVariants as order
use Rattle.myi_order.specs.declared.key_parts.KeyParts.{KeyParts}
use Rattle.myi_sortindex.specs.declared.fault.SortFault.{SortFault}
use Rattle.myi_sortindex.specs.declared.fault.SortFault.TheVariants as sort
use Rattle.myi_make.specs.declared.fault.MakeFault.{MakeFault}
use Rattle.myi_make.specs.declared.fault.MakeFault.TheVariants as make
use Rattle.myi_opening.specs.Names.{file_of}

abbrev pub usage_line : List ℕ
usage_line = codes "usage: kit chk|create|shell|dump|make\n"

abbrev pub absent_line : List ℕ → List ℕ
absent_line file = file ++ codes ": absent\n"

abbrev pub refused_line : List ℕ → List ℕ → List ℕ
refused_line name reason = name ++ (codes ": refused: " ++ (reason ++ codes "\n"))

-- the number and the name of a refusal of definitions; there is no 15
abbrev pub reason_of : DefFault → List ℕ
reason_of fault.Short = codes "1 Short"
reason_of fault.Magic = codes "2 Magic"
reason_of fault.Lengths = codes "3 Lengths"
reason_of fault.Packed = codes "4 Packed"
reason_of fault.Checksum = codes "5 Checksum"
reason_of fault.Fulltext = codes "6 Fulltext"
reason_of fault.Spatial = codes "7 Spatial"
reason_of fault.Uniques = codes "8 Uniques"
reason_of fault.FieldType = codes "9 FieldType"
reason_of fault.SegType = codes "10 SegType"
reason_of fault.SegPlace = codes "11 SegPlace"
reason_of fault.Collation = codes "12 Collation"
reason_of fault.BlockLength = codes "13 BlockLength"
reason_of fault.PointerSize = codes "14 PointerSize"
reason_of fault.KeyTooLong = codes "16 KeyTooLong"
reason_of fault.Memory = codes "17 Memory"

abbrev pub too_long : List ℕ
too_long = codes "too long"

abbrev pub foreign : List ℕ
foreign = codes "foreign"

-- a table was repaired: how many rows are kept, how many repeat others, and the data file's lengths before and after
abbrev pub recovered_line : List ℕ → Report → List ℕ
recovered_line name r =
    name ++ (codes ": recovered " ++ (decimal r.kept ++ (codes " rows, dropped " ++ (decimal r.repeats ++ (codes " repeats, data " ++ (decimal r.old_length ++ (codes " to " ++ (decimal r.new_length ++ codes " bytes\n"))))))))

-- why no work is done on a table; the faults that cut work off have no line
abbrev pub fault_line : List ℕ → RepairFault → List ℕ
fault_line name (repair.Absent f) = absent_line (file_of f name)
fault_line name (repair.Def f) = refused_line name (reason_of f)
fault_line name repair.TooLong = refused_line name too_long
fault_line name repair.File = []
fault_line name repair.Memory = []

-- a table was made
abbrev pub created_line : List ℕ → List ℕ
created_line name = name ++ codes ": created\n"

-- a table of so many rows was made, so many blocks of it were damaged, and so many rows were recovered
abbrev pub made_line : List ℕ → ℕ → ℕ → ℕ → List ℕ
made_line name count damaged kept =
    name ++ (codes ": made " ++ (decimal count ++ (codes ", damaged " ++ (decimal damaged ++ (codes ", recovered " ++ (decimal kept ++ codes ", ok\n"))))))

-- other bytes stand at this place of a file than were put there
abbrev pub damaged_line : List ℕ → ℕ → List ℕ
damaged_line name at = name ++ (codes ": damaged at " ++ (decimal at ++ codes "\n"))

-- why a table is not made; the faults that cut the making off have no line
abbrev pub not_made_line : List ℕ → MakeFault → List ℕ
not_made_line name (make.Absent f) = absent_line (file_of f name)
not_made_line name (make.Def f) = refused_line name (reason_of f)
not_made_line name make.TooLong = refused_line name too_long
not_made_line name (make.Damaged at) = damaged_line name at
not_made_line name make.File = []
not_made_line name make.Memory = []

-- a line of a text is the first that is not in its grammar
abbrev pub text_line : List ℕ → ℕ → List ℕ
text_line file n = file ++ (codes ": line " ++ (decimal n ++ codes "\n"))

-- nothing was found wrong with a table
abbrev pub ok_line : List ℕ → List ℕ
ok_line name = name ++ codes ": ok\n"

abbrev pub item_word : HeaderItem → List ℕ
item_word item.Mark = codes "mark"
item_word item.Records = codes "records"
item_word item.Del = codes "del"
item_word item.Split = codes "split"
item_word item.KeyFileLength = codes "key_file_length"
item_word item.DataFileLength = codes "data_file_length"
item_word item.Empty = codes "empty"
item_word item.KeyEmpty = codes "key_empty"

abbrev pub finding_text : Finding → List ℕ
finding_text (finding.Header i) = codes "header " ++ item_word i
finding_text (finding.Deleted at) = codes "deleted at " ++ decimal at
finding_text (finding.Key key at) = codes "key " ++ (decimal key ++ (codes " at " ++ decimal at))
finding_text (finding.Rows at) = codes "data at " ++ decimal at

-- something is wrong with a table
abbrev pub finding_line : List ℕ → Finding → List ℕ
finding_line name f = name ++ (codes ": error: " ++ (finding_text f ++ codes "\n"))

abbrev pub finding_lines : List ℕ → List Finding → List ℕ
finding_lines name found = flat_map (finding_line name) found

abbrev pub number_text : ℕ → List ℕ
number_text n = codes " " ++ decimal n

-- how many rows go to one prefix of a key: of one segment, of two, and so on
unfoldable pub parts_line : List ℕ → KeyParts → List ℕ
parts_line name p = name ++ (codes ": key " ++ (decimal p.key ++ (codes " rows per prefix" ++ (flat_map number_text p.per ++ codes "\n"))))

-- a table was analyzed
abbrev pub analyzed_line : List ℕ → List ℕ
analyzed_line name = name ++ codes ": analyzed\n"

abbrev pub analyzed_lines : List ℕ → List KeyParts → List ℕ
analyzed_lines name parts = flat_map (parts_line name) parts ++ analyzed_line name

-- the rows of a table were sorted by the key of this number: how many they are, and the data file's lengths before and after
abbrev pub sorted_line : List ℕ → ℕ → Report → List ℕ
sorted_line name key r =
    name ++ (codes ": sorted " ++ (decimal r.kept ++ (codes " rows by key " ++ (decimal key ++ (codes ", data " ++ (decimal r.old_length ++ (codes " to " ++ (decimal r.new_length ++ codes " bytes\n"))))))))

abbrev pub no_key : ℕ → List ℕ
no_key key = codes "no key " ++ decimal key

-- why a table is not sorted by the key of this number, or not analyzed, which asks for none; the faults that cut work off have
-- no line
abbrev pub order_line : List ℕ → ℕ → OrderFault → List ℕ
order_line name key (order.Absent f) = absent_line (file_of f name)
order_line name key (order.Def f) = refused_line name (reason_of f)
order_line name key (order.NoKey keys) = refused_line name (no_key key)
order_line name key (order.Damaged f) = finding_line name f
order_line name key order.File = []
order_line name key order.Memory = []

-- the pages of a table's index file were sorted, and are so many
abbrev pub sorted_pages_line : List ℕ → ℕ → List ℕ
sorted_pages_line name pages = name ++ (codes ": sorted " ++ (decimal pages ++ codes " pages\n"))

-- why they are not sorted; the faults that cut work off have no line
abbrev pub sort_index_line : List ℕ → SortFault → List ℕ
sort_index_line name (sort.Absent f) = absent_line (file_of f name)
sort_index_line name (sort.Def f) = refused_line name (reason_of f)
sort_index_line name (sort.Damaged f) = finding_line name f
sort_index_line name sort.File = []
sort_index_line name sort.Memory = []
