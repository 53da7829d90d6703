use Rattle.std.proofs.Common.{◌≡◌, ◌≤◌, map, reverse}
use Rattle.myi_merge.specs.Merged.{counted_by}
use Rattle.myi_merge.proofs.merge.Merge.counters.Given as goal

abbrev pub invariant-loop-table : goal.invariant-loop-table
invariant-loop-table l =
    (goal.iterator-loop-table).can_next l.table-iterator
    × (goal.iterator-loop-table).is_finite l.table-iterator
    × (l.sum ≡ counted_by (map (λ t. t.now) (reverse l.yielded)))
    × (l.sum.reads ≤ l.sum.read_requests)
