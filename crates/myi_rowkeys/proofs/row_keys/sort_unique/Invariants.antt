use Rattle.std.proofs.Common.{◌≡◌, take, length}
use Rattle.myi_rowkeys.specs.RowLists.{sorted_unique}
use Rattle.myi_rowkeys.proofs.row_keys.sort_unique.Given as goal

-- the lists so far are in order
abbrev pub invariant-loop-index : goal.invariant-loop-index
invariant-loop-index l = record {
  all : length l.lists ≡ length l.fn.lists;
  so_far : l.lists ≡ sorted_unique (take l.index l.keys) l.fn.lists;
}
