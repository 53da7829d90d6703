use Rattle.std.proofs.Common.{◌≡◌, ◌≤◌, ◌<◌, ◌^◌, ℕ, List, Some, map}
use Rattle.std.specs.List.{AllByRecursion, range_with_len}
use Rattle.myi_base.specs.Holding.{IfTold}
use Rattle.myi_keylist.specs.declared.pair.Pair.{Pair}
use Rattle.myi_order.specs.Numbers.{all_per}
use Rattle.myi_order.specs.Listed.{HaveLists, parts_at}
use Rattle.myi_order.proofs.counting.parts_of_trees.Given as goal

-- the trees so far are counted
abbrev pub invariant-loop-at : goal.invariant-loop-at
invariant-loop-at g l = record {
  holds : g.F.Files.holds l.files ≡ g.F.Files.holds l.fn.files;
  faults : g.F.Files.faults l.fn.files ≤ g.F.Files.faults l.files;
  small : AllByRecursion (λ n. n < 256 ^ 4) (all_per l.parts.items);
  told : IfTold (g.F.Files.holds l.fn.files) (λ m. (x : List ℕ) → m l.index ≡ Some x → (lists : List (List Pair)) → HaveLists l.defs l.roots x lists → l.parts.items ≡ map (parts_at l.defs lists) (range_with_len 0 l.at));
}
