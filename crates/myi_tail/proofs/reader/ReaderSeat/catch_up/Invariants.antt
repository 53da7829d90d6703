use Rattle.std.proofs.Common.{◌≡◌, ◌≤◌, ◌-◌, vec_len}
use Rattle.myi_tail.specs.Inside.{IsReader}
use Rattle.myi_tail.specs.Prefix.{BeginsWith}
use Rattle.myi_tail.proofs.reader.ReaderSeat.catch_up.Given as goal

abbrev pub invariant-loop-self : goal.invariant-loop-self
invariant-loop-self l = record {
  kept : IsReader l.self-inside;
  tail : l.self-inside.seat.table_id ≡ l.fn.self.tail;
  seen : l.self-inside.seen ≡ l.fn.self.seen;
  more : BeginsWith l.self-inside.known.items l.fn.self.known;
  upto : l.upto ≤ l.self-inside.seen;
}

abbrev pub decreases-loop-self : goal.decreases-loop-self
decreases-loop-self l = l.upto - vec_len l.self-inside.known
