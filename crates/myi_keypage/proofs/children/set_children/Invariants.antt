use Rattle.std.proofs.Common.{◌≡◌, ◌++◌, ℕ, List, length, drop}
use Rattle.myi_keypage.specs.declared.entry.Entry.{Entry}
use Rattle.myi_keypage.specs.Page.{entries_bytes}
use Rattle.myi_keypage.specs.Children.{HasChildren}
use Rattle.myi_keypage.proofs.ChildrenLaws.{Written}
use Rattle.myi_keypage.proofs.children.set_children.Given as goal

abbrev pub invariant-loop-i : goal.invariant-loop-i
invariant-loop-i l = record {
  left : (done before : List ℕ) (entries : List Entry) (former rest : List ℕ) → HasChildren l.rec_ref l.fn.page l.fn.at done before entries former rest → length l.children ≡ length former
      → Written l.rec_ref l.page l.at (drop l.i l.children) (done ++ (entries_bytes l.rec_ref before entries l.children ++ rest)) rest;
  long : length l.page ≡ length l.fn.page;
}
