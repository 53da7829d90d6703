use Rattle.std.proofs.Common.{◌≡◌, ◌+◌, ◌-◌, ◌^◌, ◌≤◌, length, drop}
use Rattle.std.specs.List.{take_while, prefix_len}
use Rattle.myi_snapshots.specs.Known.{is_row, end_with}
use Rattle.myi_snapshots.specs.Knowing.{told_place}
use Rattle.myi_snapshots.proofs.known.count_on.Given as goal

abbrev pub invariant-loop-size : goal.invariant-loop-size
invariant-loop-size l =
    (l.count ≤ length l.rows.rows)
    × (l.behind ≤ 2 ^ 64 - 1)
    × (l.count + prefix_len (is_row l.defs) (drop l.count l.rows.rows) ≡ prefix_len (is_row l.defs) l.rows.rows)
    × (told_place (end_with l.defs l.behind (take_while (is_row l.defs) (drop l.count l.rows.rows))) ≡ told_place (end_with l.defs l.fn.end (take_while (is_row l.defs) (drop l.fn.counted l.rows.rows))))

abbrev pub decreases-loop-size : goal.decreases-loop-size
decreases-loop-size l = length l.rows.rows - l.count
