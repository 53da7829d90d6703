use Rattle.std.proofs.Common.{◌≡◌, Some, ◌++◌, length}
use Rattle.myi_keypage.specs.Views.{ViewedPage, viewed_in, children_of, with_child}
use Rattle.myi_treecopy.proofs.page.children_of.Given as goal

abbrev pub invariant-loop-item : goal.invariant-loop-item
invariant-loop-item l = record {
  s : ViewedPage;
  shows : Some s ≡ viewed_in l.rec_ref l.page;
  children : l.children.items ++ children_of l.walk ≡ with_child s.first (children_of s.items);
}

abbrev pub decreases-loop-item : goal.decreases-loop-item
decreases-loop-item l = length l.walk
