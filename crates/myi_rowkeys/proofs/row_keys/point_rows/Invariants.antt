use Rattle.std.proofs.Common.{◌≡◌, take, drop, map, ◌++◌}
use Rattle.myi_keylist.specs.Columns.{pointed}
use Rattle.myi_rowkeys.proofs.row_keys.point_rows.Given as goal

-- those so far have pointers, the others are as before
abbrev pub invariant-loop-list : goal.invariant-loop-list
invariant-loop-list l = l.lists ≡ map (map (pointed l.pointers)) (take l.list-index l.fn.lists) ++ drop l.list-index l.fn.lists
