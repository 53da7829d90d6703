use Rattle.std.proofs.Common.{[]}
use Rattle.myi_keypage.proofs.PageIs.{length-entries_after}
use Rattle.myi_keypage.proofs.ShownIn.{page_shown, shown_node, shown_some, shown_children, shown_longest}
use Rattle.myi_keypage.proofs.laws.views_show_pages.Goals as goal

pub returns : goal.returns
returns c = record {
  shown = page_shown;
  entries = λ s. length-entries_after [] s.items;
  node = shown_node;
  some = shown_some;
  children = shown_children;
  longest = shown_longest;
}
