-- What the making of a table from a text prints, answers and leaves.
use Rattle.std.specs.Prelude.{◌≡◌, ◌⊎◌, ℕ, List, [], length, take, Some, None, Result, Ok, Err, if◌then◌else◌}
use Rattle.std.specs.Str.{bytes_eq}
use Rattle.myi_base.specs.Holding.{Holding}
use Rattle.myi_defs.specs.declared.types.Defs.{Defs}
use Rattle.myi_defs.specs.EmptyTable.{empty_header}
use Rattle.myi_defs.specs.ReadDefs.{read_defs}
use Rattle.myi_create.specs.declared.fault.CreateFault.{CreateFault}
use Rattle.myi_create.specs.declared.fault.CreateFault.TheVariants as create
use Rattle.myi_create.specs.Names.{ThreeNames, names_for}
use Rattle.myi_create.specs.Creating.{definitions_in, MakesPart}
use Rattle.myi_pair.specs.Clean.{IsClean}
use Rattle.myisamkit.specs.declared.status.Status.{Status}
use Rattle.myisamkit.specs.declared.status.Status.TheVariants as status
use Rattle.myisamkit.specs.Lines.{absent_line, refused_line, reason_of, created_line, text_line}
use Rattle.myisamkit.specs.Turns.{Turn}

-- why no table is made; the faults that cut work off have no line
abbrev pub reason_line : List ℕ → List ℕ → CreateFault → List ℕ
reason_line name file create.Absent = absent_line file
reason_line name file (create.Line n) = text_line file n
reason_line name file (create.Def f) = refused_line name (reason_of f)
reason_line name file create.File = []
reason_line name file create.Memory = []

abbrev pub reason_status : CreateFault → Status
reason_status create.Absent = status.Absent
reason_status (create.Line n) = status.Refused
reason_status (create.Def f) = status.Refused
reason_status create.File = status.FileFault
reason_status create.Memory = status.Memory

-- the data file is empty, the index file is this header, and there is no working index file
abbrev pub made : ThreeNames → List ℕ → Holding → Holding
made t header m q =
    if bytes_eq q t.rows then Some [] else
    (if bytes_eq q t.index then Some header else
    (if bytes_eq q t.new_index then None else m q))

-- where no table is made the files stay
abbrev pub made_turn : List ℕ → List ℕ → Result Defs CreateFault → Holding → Turn
made_turn name file (Err f) m = record { text = reason_line name file f; status = reason_status f; files = m }
made_turn name file (Ok d) m = record { text = created_line name; status = status.Ok; files = made (names_for name) (empty_header d.raw) m }

abbrev pub create_turn : List ℕ → List ℕ → Holding → Turn
create_turn name file m = made_turn name file (definitions_in file m) m

-- this header is that of a table with these definitions, and beside a data file of no bytes a clean pair
pub record IsEmptyTable (d : Defs) (x : List ℕ) : Type 0 where
  pub read : read_defs x ≡ Ok (record d { raw = take (length d.raw) x })
  pub clean : IsClean [] x

-- a table was made where the text stands for definitions, and is an empty one
pub record CreateDone (name file : List ℕ) (m n : Holding) : Type 0 where
  pub files : n ≡ (create_turn name file m).files
  pub made : (d : Defs) → definitions_in file m ≡ Ok d → IsEmptyTable d (empty_header d.raw)

-- The files at a status. Where a file fault cut the making off the index file stays, and the data file stays, or is empty where
-- the text stands for definitions; so
-- where memory was wanting, but that this may come at the line, once the table is made.
abbrev pub CreateLeaves : List ℕ → List ℕ → Status → Holding → Holding → Type 0
CreateLeaves name file status.FileFault m n = MakesPart (names_for name) file m n
CreateLeaves name file status.Memory m n = MakesPart (names_for name) file m n ⊎ CreateDone name file m n
CreateLeaves name file status.SinkFault m n = CreateDone name file m n
CreateLeaves name file status.Ok m n = CreateDone name file m n
CreateLeaves name file status.Findings m n = CreateDone name file m n
CreateLeaves name file status.Usage m n = CreateDone name file m n
CreateLeaves name file status.Refused m n = CreateDone name file m n
CreateLeaves name file status.Absent m n = CreateDone name file m n
