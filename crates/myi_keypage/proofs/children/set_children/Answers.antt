use Rattle.std.proofs.Common.{◌≡◌, ◌+◌, ◌++◌, ℕ, List, length, drop, get_or, ap, sym, subst, ◌∙◌, arith}
use Rattle.std.proofs.lemmas.List.{take_rest}
use Rattle.myi_keypage.specs.Page.{shared, entry_bytes, entries_bytes, child_bytes}
use Rattle.myi_keypage.specs.Children.{HasChildren}
use Rattle.myi_keypage.proofs.ChildrenLaws.{going_on, child_set, children_from}
use Rattle.myi_keypage.proofs.children.set_children.Goals as goal

pub set_child-at-requires-clause-room : goal.set_child-at-requires-clause-room
set_child-at-requires-clause-room c =
    let r = c.requires.left in
    let w = c.loop-i.invariant.left r.0 r.1 r.3 r.4 r.2 r.5 r.6 in
    let news : List ℕ = drop (c.loop-i.i + 1) c.args.children.now in
    let child : ℕ = get_or c.args.children.now c.loop-i.i 0 in
    let fewer = ap length (sym (children_from c.args.children.now c.loop-i.i (omega arith))) ∙ w.fewer in
    let n = going_on c.args.rec_ref c.loop-i.page c.loop-i.at w.done w.before w.entries w.former r.2 child news w.has fewer in
    let size : c.entry_size-at.result ≡ length (entry_bytes c.args.rec_ref w.before n.entry) = c.entry_size-at.ensures.value (shared w.before n.entry.key) n.entry.row (drop (shared w.before n.entry.key) n.entry.key) (child_bytes n.was ++ n.back) n.prefix n.key n.row (take_rest c.loop-i.page c.loop-i.at ∙ n.here) in
    omega (arith, size, n.room)

pub loop-i-preserved : goal.loop-i-preserved
loop-i-preserved c = record {
  left = λ done before entries former rest has same.
      let w = c.loop-i.invariant.left done before entries former rest has same in
      let news : List ℕ = drop (c.loop-i.i + 1) c.args.children.now in
      let child : ℕ = get_or c.args.children.now c.loop-i.i 0 in
      let parted = children_from c.args.children.now c.loop-i.i (omega arith) in
      let n = going_on c.args.rec_ref c.loop-i.page c.loop-i.at w.done w.before w.entries w.former rest child news w.has (ap length (sym parted) ∙ w.fewer) in
      let size : c.entry_size-at.result ≡ length (entry_bytes c.args.rec_ref w.before n.entry) = c.entry_size-at.ensures.value (shared w.before n.entry.key) n.entry.row (drop (shared w.before n.entry.key) n.entry.key) (child_bytes n.was ++ n.back) n.prefix n.key n.row (take_rest c.loop-i.page c.loop-i.at ∙ n.here) in
      let start : length (w.done ++ entry_bytes c.args.rec_ref w.before n.entry) ≡ c.loop-i.at + c.entry_size-at.result = omega (arith, n.start, size) in
      let new = child_set c.loop-i.page c.set_child-at.new.page (w.done ++ entry_bytes c.args.rec_ref w.before n.entry) n.back (c.loop-i.at + c.entry_size-at.result) n.was child n.there start c.set_child-at.ensures.front c.set_child-at.ensures.back in
      let at : c.loop-i.at + length (entry_bytes c.args.rec_ref w.before n.entry) + 7 ≡ c.set_child-at.result = omega (arith, size, c.set_child-at.ensures.end) in
      record {
        done = (w.done ++ entry_bytes c.args.rec_ref w.before n.entry) ++ child_bytes child;
        before = n.entry.key;
        entries = n.others;
        former = n.left;
        has = subst (λ (t : ℕ). HasChildren c.args.rec_ref c.set_child-at.new.page t ((w.done ++ entry_bytes c.args.rec_ref w.before n.entry) ++ child_bytes child) n.entry.key n.others n.left rest) at (n.then c.set_child-at.new.page new);
        fewer = n.fewer;
        same = n.whole ∙ ap (λ (ns : List ℕ). w.done ++ (entries_bytes c.args.rec_ref w.before w.entries ns ++ rest)) (sym parted) ∙ w.same;
      };
  long = omega (arith, c.set_child-at.ensures.long, c.loop-i.invariant.long);
}
