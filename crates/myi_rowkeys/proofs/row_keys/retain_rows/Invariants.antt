use Rattle.std.proofs.Common.{◌≡◌, take, drop, map, ◌++◌}
use Rattle.std.specs.List.{filter}
use Rattle.myi_keylist.specs.Columns.{has_flag}
use Rattle.myi_rowkeys.proofs.row_keys.retain_rows.Given as goal

-- the pairs of those so far are taken out, the others are as before
abbrev pub invariant-loop-list : goal.invariant-loop-list
invariant-loop-list l = l.lists ≡ map (filter (has_flag l.flags)) (take l.list-index l.fn.lists) ++ drop l.list-index l.fn.lists
