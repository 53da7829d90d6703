use Rattle.std.proofs.Common.{◌≡◌, drop}
use Rattle.std.specs.List.{list_all}
use Rattle.myi_check.specs.WalksBusy.{misses}
use Rattle.myi_check.proofs.busy.BusyPages.is_free.Given as goal

-- what is left decides
abbrev pub invariant-loop-i : goal.invariant-loop-i
invariant-loop-i l = list_all (misses l.at l.block_length) (drop l.i l.self.trees.items) ≡ list_all (misses l.at l.block_length) l.self.trees.items
