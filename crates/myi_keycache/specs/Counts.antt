-- The counters of a key cache (MySQL Reference Manual, server status variables: Key_read_requests,
-- Key_reads, Key_write_requests, Key_writes). A request that is refused counts as none.
use Rattle.std.specs.Prelude.{◌+◌, ◌-◌, ◌^◌, ℕ, min, List, Result, Ok, Err, if◌then◌else◌}
use Rattle.myi_keycache.specs.declared.setup.Counters.{Counters}
use Rattle.myi_keycache.specs.Kept.{Page, is_kept, is_unwritten, unwritten_count}

-- nothing was counted
abbrev pub no_counts : Counters
no_counts = record { read_requests = 0; reads = 0; write_requests = 0; writes = 0 }

-- a counter that rose by a number; it stays at the end of its type
abbrev pub raised : ℕ → ℕ → ℕ
raised by count = min (count + by) (2 ^ 64 - 1)

-- the count of writes after some pages became unwritten: each of them and of those that were unwritten
-- before was written, if it is not unwritten now
abbrev pub writes_after : ℕ → List Page → List Page → ℕ → ℕ
writes_after more old new writes = raised (unwritten_count old + more - unwritten_count new) writes

-- A get is a read request, and a read where its page was not kept.
abbrev pub gets_counted : {T E : Type 0} → Result T E → ℕ → ℕ → List Page → List Page → Counters → Counters
gets_counted (Ok page) at len old new counts = record {
  read_requests = raised 1 counts.read_requests;
  reads = raised (if is_kept old at len then 0 else 1) counts.reads;
  write_requests = counts.write_requests;
  writes = writes_after 0 old new counts.writes;
}
gets_counted (Err e) at len old new counts = record counts { writes = writes_after 0 old new counts.writes }

-- A put is a write request. Its page is to be written once more, if it was not unwritten already.
abbrev pub puts_counted : {T E : Type 0} → Result T E → ℕ → ℕ → List Page → List Page → Counters → Counters
puts_counted (Ok done) at len old new counts = record counts {
  write_requests = raised 1 counts.write_requests;
  writes = writes_after (if is_unwritten old at len then 0 else 1) old new counts.writes;
}
puts_counted (Err e) at len old new counts = record counts { writes = writes_after 0 old new counts.writes }

-- a flush is no request
abbrev pub flushes_counted : List Page → List Page → Counters → Counters
flushes_counted old new counts = record counts { writes = writes_after 0 old new counts.writes }
