use Rattle.std.proofs.Common.{◌+◌, ◌++◌, [], refl, ◌∙◌, arith}
use Rattle.myi_keypage.specs.Page.{child_bytes}
use Rattle.myi_keypage.proofs.ShiftLaws.{two_there, leaf_stays, first_child, small_sum, child_shifted}
use Rattle.myi_keypage.proofs.shift.shift_page.Goals as goal

pub bounds-page-0 : goal.bounds-page-0
bounds-page-0 c =
    let r = c.requires.page in
    omega (arith, two_there c.args.rec_ref c.args.by c.args.page.now r.1 r.0 r.2 r.3)

pub bounds-page-1 : goal.bounds-page-1
bounds-page-1 c =
    let r = c.requires.page in
    omega (arith, two_there c.args.rec_ref c.args.by c.args.page.now r.1 r.0 r.2 r.3)

pub returns-then-page-lt-NODE_BIT-clause-text : goal.returns-then-page-lt-NODE_BIT-clause-text
returns-then-page-lt-NODE_BIT-clause-text c = λ p rest can is. leaf_stays c.args.rec_ref c.args.by c.args.page.now rest p.entries p.children can is c.if-page-lt-NODE_BIT.true

pub shift_child-at-requires-clause-room : goal.shift_child-at-requires-clause-room
shift_child-at-requires-clause-room c =
    let r = c.requires.page in
    let f = first_child c.args.rec_ref c.args.by c.args.page.now r.1 r.0.entries r.0.children _ r.2 r.3 (omega (arith, c.if-page-lt-NODE_BIT.false)) refl in
    f.room

pub shift_child-at-requires-clause-small : goal.shift_child-at-requires-clause-small
shift_child-at-requires-clause-small c =
    let r = c.requires.page in
    let f = first_child c.args.rec_ref c.args.by c.args.page.now r.1 r.0.entries r.0.children _ r.2 r.3 (omega (arith, c.if-page-lt-NODE_BIT.false)) refl in
    small_sum c.args.page.now f.front f.back 2 f.child c.args.by f.there f.start f.one f.two

pub shift_entries-requires-clause-left : goal.shift_entries-requires-clause-left
shift_entries-requires-clause-left c =
    let r = c.requires.page in
    let f = first_child c.args.rec_ref c.args.by c.args.page.now r.1 r.0.entries r.0.children _ r.2 r.3 (omega (arith, c.if-page-lt-NODE_BIT.false)) refl in
    let new = child_shifted c.args.page.now c.shift_child-at.new.page f.front f.back 2 f.child c.args.by f.there f.start f.one f.two c.shift_child-at.ensures.front c.shift_child-at.ensures.back in
    rw c.shift_child-at.ensures.end (_, _, r.1, _, _, f.then c.shift_child-at.new.page new)

pub returns-clause-text : goal.returns-clause-text
returns-clause-text c = λ p rest can is.
    let f = first_child c.args.rec_ref c.args.by c.args.page.now rest p.entries p.children _ can is (omega (arith, c.if-page-lt-NODE_BIT.false)) refl in
    let new = child_shifted c.args.page.now c.shift_child-at.new.page f.front f.back 2 f.child c.args.by f.there f.start f.one f.two c.shift_child-at.ensures.front c.shift_child-at.ensures.back in
    c.shift_entries.ensures.text (f.front ++ child_bytes (f.child + c.args.by)) [] p.entries f.left rest (rw c.shift_child-at.ensures.end (f.then c.shift_child-at.new.page new)) ∙ f.whole
