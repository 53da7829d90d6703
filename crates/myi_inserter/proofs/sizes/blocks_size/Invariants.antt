use Rattle.std.proofs.Common.{◌≡◌, ◌+◌, ◌*◌, ◌<◌, ◌≤◌, Bool, true}
use Rattle.myi_dellist.specs.Releasing.{most_size}
use Rattle.myi_dellist.specs.Placing.{room, append_from, end_behind}
use Rattle.myi_inserter.proofs.sizes.blocks_size.Given as goal

abbrev pub invariant-loop-left : goal.invariant-loop-left
invariant-loop-left l =
    (first : Bool)
    × (l.room ≡ room l.len first most_size)
    × (0 < l.left)
    × (l.size + 2 * l.left ≤ 2 * l.len)
    × (l.size + end_behind 0 (append_from l.left l.len first l.left 0) ≡ end_behind 0 (append_from l.len l.len true l.len 0))

abbrev pub decreases-loop-left : goal.decreases-loop-left
decreases-loop-left l = l.left
