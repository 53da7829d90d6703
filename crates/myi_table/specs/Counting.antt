-- Counters of a key cache together with others.
use Rattle.myi_keycache.specs.declared.setup.Counters.{Counters}
use Rattle.myi_keycache.specs.Counts.{raised}
pub use Rattle.myi_keycache.specs.Counts.{no_counts}

-- each count with the other; one that would pass 2^64 - 1 stays there
abbrev pub sum_of : Counters → Counters → Counters
sum_of one other = record {
  read_requests = raised other.read_requests one.read_requests;
  reads = raised other.reads one.reads;
  write_requests = raised other.write_requests one.write_requests;
  writes = raised other.writes one.writes;
}
