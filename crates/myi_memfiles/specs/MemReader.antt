-- What a reader of a file in memory shows.
use Rattle.std.specs.Prelude.{ℕ, List, Some}
use Rattle.myi_base.specs.Holding.{IfTold}
use Rattle.myi_memfiles.specs.declared.memory_reader.MemReader.{MemReader}
use Rattle.myi_memfiles.specs.Failures.{Failing}
use Rattle.myi_memfiles.specs.FailingOf.{failing_of}

-- the bytes of the file
abbrev pub reader_bytes : MemReader → List ℕ
reader_bytes s = s.bytes.items

-- how often a call has failed
abbrev pub reader_faults : MemReader → ℕ
reader_faults s = s.failures.faults

-- how many reads were made
abbrev pub reader_reads : MemReader → ℕ
reader_reads s = s.reads

-- which calls fail, and how many were made
abbrev pub reader_failing : MemReader → Failing
reader_failing s = failing_of s.failures

-- this holds of the bytes of the file
abbrev pub IfReaderTold : MemReader → (List ℕ → Type 0) → Type 0
IfReaderTold s P = IfTold (Some (reader_bytes s)) P
