use Rattle.myi_keycache.proofs.RangeLemmas.{bytes_long, written_read, apart_read, part_read, end_written}
use Rattle.myi_keycache.proofs.laws.ranges_are_read.Goals as goal

pub returns : goal.returns
returns c = record { long = bytes_long; written = written_read; apart = apart_read; part = part_read; end = end_written }
