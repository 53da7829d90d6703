use Rattle.std.proofs.Common.{◌≡◌, ◌-◌, ◌++◌, [], ℕ, List, length}
use Rattle.myi_keylist.specs.Classes.{share_class, keeps_from, AreTaken}
use Rattle.myi_keylist.proofs.class_numbers.keep_rows.Given as goal

-- the flags so far, and those of the rows that are left, are all flags
abbrev pub invariant-loop-row : goal.invariant-loop-row
invariant-loop-row l = record {
  kept : List ℕ;
  long : length l.taken ≡ length l.fn.taken;
  taken : AreTaken l.columns l.taken kept;
  whole : l.flags.items ++ keeps_from (share_class l.columns) kept l.row (l.rows - l.row) ≡ keeps_from (share_class l.columns) [] 0 l.rows;
}
