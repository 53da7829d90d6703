use Rattle.std.proofs.Common.{◌≡◌, Bool, length}
use Rattle.std.specs.Prelude.{is_some}
use Rattle.myi_search.specs.Passing.{passes}
use Rattle.myi_search.specs.Seeking.{Seeking}
use Rattle.myi_search.proofs.SeekLaws.{AreAlike}
use Rattle.myi_search.proofs.page.seek_items.Given as goal

abbrev pub invariant-loop-item : goal.invariant-loop-item
invariant-loop-item l = record {
  node : Bool;
  child : is_some l.child ≡ node;
  alike : AreAlike node l.walk;
  seeking : Seeking (passes l.bound) l.view l.reached.code.items l.walk l.child;
  best : l.reached.best ≡ l.fn.reached.best;
  row : l.reached.row ≡ l.fn.reached.row;
  gathers : l.reached.gathers ≡ l.fn.reached.gathers;
  run : l.reached.run ≡ l.fn.reached.run;
}

abbrev pub decreases-loop-item : goal.decreases-loop-item
decreases-loop-item l = length l.walk
