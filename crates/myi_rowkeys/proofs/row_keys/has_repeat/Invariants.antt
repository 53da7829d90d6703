use Rattle.std.proofs.Common.{◌≡◌, drop}
use Rattle.myi_rowkeys.specs.RowLists.{any_repeat}
use Rattle.myi_rowkeys.proofs.row_keys.has_repeat.Given as goal

-- what is left decides
abbrev pub invariant-loop-index : goal.invariant-loop-index
invariant-loop-index l = any_repeat (drop l.index l.keys) (drop l.index l.lists) ≡ any_repeat l.keys l.lists
