-- What an object of files in memory shows.
use Rattle.std.specs.Prelude.{◌≡◌, ℕ, List, Some}
use Rattle.myi_memfiles.specs.declared.memory.MemFiles.{MemFiles}
use Rattle.myi_base.specs.Holding.{Holding, IfTold, Told}
use Rattle.myi_memfiles.specs.Stored.{held}
use Rattle.myi_memfiles.specs.Failures.{Failing}
use Rattle.myi_memfiles.specs.FailingOf.{failing_of}

-- what the files hold
abbrev pub files_held : MemFiles → Holding
files_held s = held s.files

-- how often a call has failed
abbrev pub files_faults : MemFiles → ℕ
files_faults s = s.failures.faults

-- how many reads were made
abbrev pub files_reads : MemFiles → ℕ
files_reads s = s.reads

-- which calls fail, and how many were made
abbrev pub files_failing : MemFiles → Failing
files_failing s = failing_of s.failures

-- which calls of each reader that is made fail
abbrev pub readers_fail : MemFiles → List ℕ
readers_fail s = s.readers_fail.items

-- this holds of what the files hold
abbrev pub IfMemTold : MemFiles → (Holding → Type 0) → Type 0
IfMemTold s P = IfTold (Some (files_held s)) P

-- this holds of what they hold before and after
abbrev pub MemTold : MemFiles → MemFiles → (Holding → Holding → Type 0) → Type 0
MemTold old new P = Told (Some (files_held old)) (Some (files_held new)) P

-- they hold what they held
abbrev pub MemSame : MemFiles → MemFiles → Type 0
MemSame old new = Some (files_held new) ≡ Some (files_held old)
