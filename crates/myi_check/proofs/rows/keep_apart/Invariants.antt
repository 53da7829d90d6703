use Rattle.std.proofs.Common.{◌≡◌, ◌≤◌, length, take, drop}
use Rattle.std.specs.Prelude.{filter}
use Rattle.myi_check.specs.HeldBytes.{is_free}
use Rattle.myi_check.proofs.rows.keep_apart.Given as goal

-- what is kept of the blocks so far stands in front, and the others are as they were
abbrev pub invariant-loop-index : goal.invariant-loop-index
invariant-loop-index l = record {
  few : l.count ≤ l.index;
  long : length l.blocks.items ≡ length l.fn.blocks.items;
  kept : take l.count l.blocks.items ≡ filter (is_free l.held) (take l.index l.fn.blocks.items);
  left : drop l.index l.blocks.items ≡ drop l.index l.fn.blocks.items;
}
