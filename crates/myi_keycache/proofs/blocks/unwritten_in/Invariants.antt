use Rattle.std.proofs.Common.{◌≡◌, ◌++◌, drop}
use Rattle.myi_keycache.specs.Order.{names_in}
use Rattle.myi_keycache.proofs.blocks.unwritten_in.Given as goal

abbrev pub invariant-loop-index : goal.invariant-loop-index
invariant-loop-index l = l.found.items ++ names_in (drop l.index l.pages.entries) ≡ names_in l.pages.entries
