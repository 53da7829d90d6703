use Rattle.std.proofs.Common.{◌≡◌, map}
use Rattle.myi_share.specs.Taking.{sum_with, counted}
use Rattle.myi_share.proofs.closing.seats_of.Given as goal

abbrev pub invariant-loop-reader : goal.invariant-loop-reader
invariant-loop-reader g l =
    (goal.iterator-loop-reader g).can_next l.reader-iterator
    × (goal.iterator-loop-reader g).is_finite l.reader-iterator
    × (l.seats.items ≡ map (λ r. r.table.seat) l.yielded)
    × (l.table ≡ record l.fn.table { added = sum_with l.fn.table.added (map counted l.yielded) })
