use Rattle.std.proofs.Common.{◌-◌, ◌++◌, [], ℕ, List, length, drop, take, get_or, ap, sym, subst, ◌∙◌, arith}
use Rattle.myi_keypage.specs.Page.{page_bytes, child_bytes}
use Rattle.myi_keypage.specs.Children.{with_children, CanTake}
use Rattle.myi_keypage.proofs.ChildrenLaws.{first_child, child_set, parted}
use Rattle.myi_keypage.proofs.children.put_children.Goals as goal

pub set_child-at-requires-clause-room : goal.set_child-at-requires-clause-room
set_child-at-requires-clause-room c =
    let r = c.requires.page in
    let cs : List ℕ = c.args.children.now in
    let news : List ℕ = take (length cs - 1) (drop 1 cs) in
    let can = subst (λ ns. CanTake c.args.rec_ref ns r.0) (parted cs (omega arith)) r.2 in
    let f = first_child c.args.rec_ref c.args.page.now r.1 r.0.entries r.0.children (get_or cs 0 0) news can r.3 in
    f.room

pub set_children-requires-clause-left : goal.set_children-requires-clause-left
set_children-requires-clause-left c =
    let r = c.requires.page in
    let cs : List ℕ = c.args.children.now in
    let news : List ℕ = take (length cs - 1) (drop 1 cs) in
    let can = subst (λ ns. CanTake c.args.rec_ref ns r.0) (parted cs (omega arith)) r.2 in
    let f = first_child c.args.rec_ref c.args.page.now r.1 r.0.entries r.0.children (get_or cs 0 0) news can r.3 in
    let new = child_set c.args.page.now c.set_child-at.new.page f.front f.back 2 f.was (get_or cs 0 0) f.there f.start c.set_child-at.ensures.front c.set_child-at.ensures.back in
    rw c.set_child-at.ensures.end (_, _, r.1, _, _, f.then c.set_child-at.new.page new, f.fewer)

pub returns-clause-text : goal.returns-clause-text
returns-clause-text c = λ p rest takes is.
    let cs : List ℕ = c.args.children.now in
    let news : List ℕ = take (length cs - 1) (drop 1 cs) in
    let whole = parted cs (omega arith) in
    let can = subst (λ ns. CanTake c.args.rec_ref ns p) whole takes in
    let f = first_child c.args.rec_ref c.args.page.now rest p.entries p.children (get_or cs 0 0) news can is in
    let new = child_set c.args.page.now c.set_child-at.new.page f.front f.back 2 f.was (get_or cs 0 0) f.there f.start c.set_child-at.ensures.front c.set_child-at.ensures.back in
    c.set_children.ensures.text (f.front ++ child_bytes (get_or cs 0 0)) [] p.entries f.left rest (rw c.set_child-at.ensures.end (f.then c.set_child-at.new.page new)) f.fewer
    ∙ f.whole ∙ ap (λ ns. page_bytes c.args.rec_ref (with_children ns p) ++ rest) (sym whole)
