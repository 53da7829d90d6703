use Rattle.std.proofs.Common.{◌≡◌, map}
use Rattle.myi_tail.specs.Seats.{closing}
use Rattle.myi_tail.proofs.tail.Tail.close.Given as goal

abbrev pub invariant-loop-reader : goal.invariant-loop-reader
invariant-loop-reader l =
    (goal.iterator-loop-reader).can_next l.reader-iterator
    × (goal.iterator-loop-reader).is_finite l.reader-iterator
    × (l.closing ≡ closing l.fn.self.appender (map (λ r. r.known) l.yielded))
