use Rattle.std.proofs.Common.{◌⊎◌, ◌+◌, ◌∙◌, ℕ, Option, List, length, sym, ap, subst, arith}
use Rattle.std.specs.Prelude.{IfErr, All}
use Rattle.std.proofs.lemmas.List.{length_push}
use Rattle.std.proofs.lemmas.List.Elements.{All-push}
use Rattle.std.proofs.lemmas.Result.{err_from_is_err_and}
use Rattle.myi_base.specs.Holding.{IfTold}
use Rattle.myi_base.proofs.CallerLemmas.{told_then}
use Rattle.myi_header.specs.StateOf.{IsPlace}
use Rattle.myi_btree.specs.Sizes.{IsPlaced}
use Rattle.myi_pair.proofs.CallerLemmas.{placed}
use Rattle.myi_sortindex.specs.Refusals.{CutsOff}
use Rattle.myi_sortindex.specs.Laying.{HaveNoRoom}
use Rattle.myi_sortindex.proofs.LayLaws.{first_next, no_room_left, root_place, refused_on}
use Rattle.myi_sortindex.proofs.laying.lay_trees.Goals as goal

pub lay_tree-requires-clause-placed : goal.lay_tree-requires-clause-placed
lay_tree-requires-clause-placed g c κs within =
    subst IsPlaced (sym c.place_of-place.ensures) (placed c.args.defs.now c.requires.sound (c.loop-i.i + 1) (omega arith, omega (arith, c.loop-i-test.true, c.requires.roots)))

pub returns-in_err-lay_tree-clause-refused : goal.returns-in_err-lay_tree-clause-refused
returns-in_err-lay_tree-clause-refused g c =
    let old = g.F.Files.holds c.args.files.now in
    let mid = g.F.Files.holds c.loop-i.files in
    let d = c.args.defs.now in
    let e = err_from_is_err_and c.from_residual-in_err-lay_tree.result c.from_residual-in_err-lay_tree.ensures.1 in
    subst (λ r. IfErr r (λ f. CutsOff f ⊎ IfTold old (HaveNoRoom c.args.copy.now d c.args.roots.now))) (sym e.1)
    (refused_on old mid _ e.0 _ _ _ e.2 c.loop-i.invariant.laid
    (λ m n before none. no_room_left c.args.copy.now d c.args.roots.now c.loop-i.i _ c.loop-i.laid m n (omega (arith, c.loop-i-test.true)) c.requires.apart before none)
    (rw c.place_of-place.ensures at c.in_err-lay_tree.ensures.refused))

pub loop-i-preserved : goal.loop-i-preserved
loop-i-preserved g c =
    let d = c.args.defs.now in
    let was = c.loop-i.invariant in
    let one = c.in_ok-lay_tree.ensures in
    record {
      count = ap (λ (rs : List (Option ℕ)). length rs) one.root ∙ length_push c.loop-i.laid.roots.items _ ∙ omega (arith, was.count);
      whole = one.whole;
      few = one.few;
      places = subst (All IsPlace) (sym one.root) (All-push IsPlace c.loop-i.laid.roots.items _ was.places (root_place c.loop-i.laid.end _ was.whole));
      later = omega (arith, was.later, c.lay_tree.ensures.cause.later);
      laid = told_then _ _ _ _ _ _ was.laid (rw c.place_of-place.ensures at one.tree)
          (λ m n k before next. first_next c.walks_depend_on_their_pages.ensures c.args.copy.now d c.args.roots.now c.loop-i.i _ c.loop-i.laid c.lay_tree.new.laid m n k (omega (arith, c.loop-i-test.true)) c.requires.apart before next one.root);
    }
