use Rattle.std.proofs.Common.{◌≡◌, ◌≤◌, All, vec_len}
use Rattle.std.specs.Vec.{vec_capacity}
use Rattle.myi_tail.specs.Seats.{IsNew}
use Rattle.myi_tail.proofs.tail.Tail.new.Given as goal

abbrev pub invariant-loop : goal.invariant-loop
invariant-loop l = record {
  same : l.appender ≡ l.initial.appender;
  room : l.readers ≤ vec_capacity l.seats;
  count : vec_len l.seats ≡ l.counter;
  new : All (IsNew l.initial.appender.tail) l.seats.items;
}
