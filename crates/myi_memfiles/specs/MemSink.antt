-- What a sink in memory shows.
use Rattle.std.specs.Prelude.{ℕ, List, Some}
use Rattle.myi_base.specs.Holding.{IfTold}
use Rattle.myi_memfiles.specs.declared.memory_sink.MemSink.{MemSink}
use Rattle.myi_memfiles.specs.Failures.{Failing}
use Rattle.myi_memfiles.specs.FailingOf.{failing_of}

-- what was written
abbrev pub sink_bytes : MemSink → List ℕ
sink_bytes s = s.written.items

-- how often a write has failed
abbrev pub sink_faults : MemSink → ℕ
sink_faults s = s.failures.faults

-- which writes fail, and how many were made
abbrev pub sink_failing : MemSink → Failing
sink_failing s = failing_of s.failures

-- this holds of what was written
abbrev pub IfSinkTold : MemSink → (List ℕ → Type 0) → Type 0
IfSinkTold s P = IfTold (Some (sink_bytes s)) P
