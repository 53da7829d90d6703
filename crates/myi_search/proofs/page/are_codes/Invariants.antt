use Rattle.std.proofs.Common.{◌≡◌, length}
use Rattle.std.specs.Prelude.{is_some}
use Rattle.myi_keypage.specs.Views.{entries_after}
use Rattle.myi_btree.specs.Walk.{each}
use Rattle.myi_btree.specs.Nodes.{pair_in}
use Rattle.myi_search.proofs.page.are_codes.Given as goal

abbrev pub invariant-loop-item : goal.invariant-loop-item
invariant-loop-item l = record {
  codes : is_some (each pair_in (entries_after l.reached.code.items l.walk)) ≡ is_some (each pair_in (entries_after l.fn.reached.code.items l.fn.walk));
  best : l.reached.best ≡ l.fn.reached.best;
  row : l.reached.row ≡ l.fn.reached.row;
  gathers : l.reached.gathers ≡ l.fn.reached.gathers;
  run : l.reached.run ≡ l.fn.reached.run;
}

abbrev pub decreases-loop-item : goal.decreases-loop-item
decreases-loop-item l = length l.walk
