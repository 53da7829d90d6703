use Rattle.std.proofs.Common.{◌≡◌, map}
use Rattle.myi_readers.specs.KeyedRows.{placed_of}
use Rattle.myi_readers.proofs.ranges.placed_rows.Given as goal

abbrev pub invariant-loop-one : goal.invariant-loop-one
invariant-loop-one l =
    (goal.iterator-loop-one).can_next l.one-iterator
    × (goal.iterator-loop-one).is_finite l.one-iterator
    × (l.rows.items ≡ map placed_of l.yielded)
