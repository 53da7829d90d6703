use Rattle.std.proofs.Common.{◌≡◌, take, length}
use Rattle.myi_rowkeys.specs.TableKeys.{row_keys}
use Rattle.myi_rowkeys.specs.RowLists.{with_pairs}
use Rattle.myi_rowkeys.proofs.row_keys.push_pairs.Given as goal

-- the lists so far have their pairs
abbrev pub invariant-loop-index : goal.invariant-loop-index
invariant-loop-index l = record {
  fields : l.fields ≡ l.fn.fields;
  all : length l.lists ≡ length l.fn.lists;
  so_far : l.lists ≡ with_pairs l.row (take l.index (row_keys l.defs l.fn.fields)) l.fn.lists;
}
