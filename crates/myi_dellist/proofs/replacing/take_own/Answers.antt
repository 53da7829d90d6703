use Rattle.std.proofs.Common.{◌∙◌, ◌^◌, List, sym, ap, subst, arith}
use Rattle.std.specs.List.{AllByRecursion}
use Rattle.myi_dellist.specs.declared.pieces.Piece.{Piece}
use Rattle.myi_dellist.specs.Placing.{room, areas_of, IsUsable}
use Rattle.myi_dellist.specs.Rows.{AreBelow}
use Rattle.myi_dellist.proofs.EndLemmas.{empty_none}
use Rattle.myi_dellist.proofs.ReplaceLemmas.{takes-full, full-less}
use Rattle.myi_dellist.proofs.replacing.take_own.Goals as goal

pub overflow_sub-left : goal.overflow_sub-left
overflow_sub-left c =
    let was = c.loop-block.invariant in
    let ps = c.loop-block.pieces.items in
    let p = c.in-Some.block.now in
    let usable = subst (λ (xs : List Piece). AllByRecursion (IsUsable c.args.len) (areas_of xs)) c.in-Some.ensures.cases.0 was.usable in
    let is = c.room-taken.ensures ∙ ap (λ b. room c.args.len b p.size) (c.is_empty.ensures ∙ empty_none _ ps (omega (arith, c.loop-block.pieces.ok.0))) in
    let less = full-less c.args.len c.loop-block.left ps p c.room-taken.result was.less usable.0 (sym c.fits.ensures ∙ c.if-fits.false) is in
    omega (arith, less.0)

pub loop-block-preserved : goal.loop-block-preserved
loop-block-preserved c =
    let was = c.loop-block.invariant in
    let ps = c.loop-block.pieces.items in
    let p = c.in-Some.block.now in
    let left = c.in-Some.ensures.cases.0 in
    let usable = subst (λ (xs : List Piece). AllByRecursion (IsUsable c.args.len) (areas_of xs)) left was.usable in
    let below = subst (λ (xs : List Piece). AreBelow (2 ^ 64) xs) left was.below in
    let small = sym c.fits.ensures ∙ c.if-fits.false in
    let is = c.room-taken.ensures ∙ ap (λ b. room c.args.len b p.size) (c.is_empty.ensures ∙ empty_none _ ps (omega (arith, c.loop-block.pieces.ok.0))) in
    let less = full-less c.args.len c.loop-block.left ps p c.room-taken.result was.less usable.0 small is in
    record {
      some = omega (arith, less.0);
      less = omega (arith, was.less);
      nothing = was.nothing;
      usable = usable.1;
      below = below.1;
      so_far = takes-full c.args.len (areas_of c.args.areas.now) ps c.push.new.self.items c.loop-block.left p c.room-taken.result (areas_of c.loop-block.rest.now) (areas_of c.in-Some.behind.now) (ap areas_of left) small is c.in_ok-push.ensures.items was.so_far;
    }
