use Rattle.std.proofs.Common.{◌≡◌, ◌≤◌, ◌*◌, List, length}
use Rattle.myi_data.specs.Stored.{SizedRow}
use Rattle.myi_keylist.specs.Columns.{AreColumns}
use Rattle.myi_rowkeys.specs.RowLists.{AreNumberLists}
use Rattle.myi_rowkeys.proofs.ColumnLemmas.{unique_before}
use Rattle.myi_rowkeys.proofs.row_keys.class_columns.Given as goal

-- the columns so far are those of the unique keys so far
abbrev pub invariant-loop-index : goal.invariant-loop-index
invariant-loop-index l = record {
  few : l.last ≤ l.index * l.rows;
  columns : (all : List SizedRow) → length all ≡ l.rows → AreNumberLists l.defs all l.lists → AreColumns (unique_before l.defs all l.index) l.rows 0 l.last l.columns.items;
}
