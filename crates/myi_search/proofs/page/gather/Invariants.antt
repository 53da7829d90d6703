use Rattle.std.proofs.Common.{◌≡◌, [], length}
use Rattle.myi_keypage.specs.Views.{entries_after}
use Rattle.myi_search.proofs.GatherLaws.{Reads}
use Rattle.myi_search.proofs.page.gather.Given as goal

abbrev pub invariant-loop-item : goal.invariant-loop-item
invariant-loop-item l = record {
  reads : Reads (entries_after [] l.view.items) l.reached.code.items l.walk l.run;
  best : l.reached.best ≡ l.fn.reached.best;
  row : l.reached.row ≡ l.fn.reached.row;
  gathers : l.reached.gathers ≡ l.fn.reached.gathers;
}

abbrev pub decreases-loop-item : goal.decreases-loop-item
decreases-loop-item l = length l.walk
