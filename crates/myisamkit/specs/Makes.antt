-- What the making of a table of rows, which is damaged and recovered, prints, answers and leaves.
use Rattle.std.specs.Prelude.{◌≡◌, ℕ, ◌/◌, false, List}
use Rattle.myi_base.specs.Holding.{Holding}
use Rattle.myi_pair.specs.RecoveredBytes.{new_data, new_index}
use Rattle.myi_pair.specs.Recovered.{Recovered}
use Rattle.myi_repair.specs.Names.{names_for, KeepsBut}
use Rattle.myi_repair.specs.Gathering.{report_of}
use Rattle.myi_make.specs.declared.fault.MakeFault.{MakeFault}
use Rattle.myi_make.specs.declared.fault.MakeFault.TheVariants as make
use Rattle.myi_make.specs.MadeTable.{defs, damaged_file}
use Rattle.myisamkit.specs.declared.status.Status.{Status}
use Rattle.myisamkit.specs.declared.status.Status.TheVariants as status
use Rattle.myisamkit.specs.Lines.{made_line}
use Rattle.myisamkit.specs.Turns.{Turn, replaced, AreSound}

-- whatever the files hold, they are what a repair leaves of the damaged data file, and how many rows it keeps is told
abbrev pub make_turn : ℕ → ℕ → List ℕ → ℕ → Holding → Turn
make_turn count seed name now m = record {
  text = made_line name count (count / 10) (report_of defs false (damaged_file count seed)).kept;
  status = status.Ok;
  files = replaced (names_for name) (new_data defs false (damaged_file count seed)) (new_index defs false (damaged_file count seed) now) m;
}

-- the status of a fault
abbrev pub not_made_status : MakeFault → Status
not_made_status (make.Absent f) = status.Absent
not_made_status (make.Def f) = status.Refused
not_made_status make.TooLong = status.Refused
not_made_status (make.Damaged at) = status.Refused
not_made_status make.File = status.FileFault
not_made_status make.Memory = status.Memory

-- a table was made: its files are recovered from the damaged data file, and nothing is wrong with them
pub record MakeDone (count seed : ℕ) (name : List ℕ) (now : ℕ) (m n : Holding) : Type 0 where
  pub files : n ≡ (make_turn count seed name now m).files
  pub recovered : Recovered defs false (damaged_file count seed) now (new_data defs false (damaged_file count seed)) (new_index defs false (damaged_file count seed) now)
  pub sound : AreSound (new_data defs false (damaged_file count seed)) (new_index defs false (damaged_file count seed) now)

-- The files at a status. Where a file fault or want of memory cut the making off, files of other names stay; want of memory
-- may come at the line, once the table is made. The output fails behind the work.
abbrev pub MakeLeaves : ℕ → ℕ → List ℕ → ℕ → Status → Holding → Holding → Type 0
MakeLeaves count seed name now status.FileFault m n = KeepsBut (names_for name) m n
MakeLeaves count seed name now status.Memory m n = KeepsBut (names_for name) m n
MakeLeaves count seed name now status.SinkFault m n = MakeDone count seed name now m n
MakeLeaves count seed name now status.Ok m n = MakeDone count seed name now m n
MakeLeaves count seed name now status.Findings m n = MakeDone count seed name now m n
MakeLeaves count seed name now status.Usage m n = MakeDone count seed name now m n
MakeLeaves count seed name now status.Refused m n = MakeDone count seed name now m n
MakeLeaves count seed name now status.Absent m n = MakeDone count seed name now m n
