use Rattle.std.proofs.Common.{◌≡◌, Some, [], ◌++◌, length}
use Rattle.std.specs.List.{AllByRecursion}
use Rattle.myi_keys.specs.Limits.{IsKey}
use Rattle.myi_keypage.specs.Page.{IsPage}
use Rattle.myi_keypage.specs.Views.{ViewedPage, page_of, viewed_in, entries_after, children_of, with_child}
use Rattle.myi_keylist.specs.declared.pair.Pair.{Pair}
use Rattle.myi_insertion.proofs.PageLaws.{Reads}
use Rattle.myi_insertion.proofs.page.read_pairs.Given as goal

abbrev pub invariant-loop-item : goal.invariant-loop-item
invariant-loop-item l = record {
  s : ViewedPage;
  shows : Some s ≡ viewed_in l.rec_ref l.bytes;
  page : IsPage l.rec_ref l.bytes (page_of s);
  reads : Reads (entries_after [] s.items) l.code.items l.walk l.pairs;
  kids : l.children.items ++ children_of l.walk ≡ with_child s.first (children_of s.items);
  keys : AllByRecursion (λ (p : Pair). IsKey p.key) l.pairs;
}

abbrev pub decreases-loop-item : goal.decreases-loop-item
decreases-loop-item l = length l.walk
