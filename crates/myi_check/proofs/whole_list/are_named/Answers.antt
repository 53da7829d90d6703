use Rattle.std.proofs.Common.{◌<◌, ◌∙◌, length, refl, sym, subst, arith}
use Rattle.myi_base.specs.Holding.{bytes_of}
use Rattle.myi_window.specs.Excerpt.{Excerpt, StandsIn}
use Rattle.myi_check.proofs.UnmetLemmas.{named_is}
use Rattle.myi_check.proofs.WholeLemmas.{pointed_at, named_on}
use Rattle.myi_check.proofs.whole_list.are_named.Goals as goal

pub loop-index-init : goal.loop-index-init
loop-index-init g c = record {
  holds = refl;
  faults = omega arith;
  stands = λ m held. subst (λ (w : Excerpt). StandsIn w (bytes_of c.args.rows.now m)) (sym c.in_ok-heads.ensures) refl;
  named = λ m held size up points k lt. absurd (omega (arith, lt));
}

pub loop-index-preserved : goal.loop-index-preserved
loop-index-preserved g c =
    let inv = c.loop-index.invariant in
    let deleted = c.args.deleted.now in
    let inside : c.loop-index.index < length deleted = omega (arith, c.loop-index-test.true, c.len-index-end.ensures) in
    record {
      holds = c.in_ok-count.ensures.holds ∙ inv.holds;
      faults = omega (arith, inv.faults, c.in_ok-count.ensures.cause.later);
      stands = λ m held. c.in_ok-count.ensures.stands m (inv.holds ∙ held) (inv.stands m held);
      named = λ m held size up points.
          let rows = bytes_of c.args.rows.now m in
          let front = c.in_ok-count.ensures.told m (inv.holds ∙ held) (inv.stands m held) in
          let said = c.link_of-link.ensures rows size front (pointed_at c.args.defs.now c.args.end deleted c.loop-index.index c.at-place.result inside c.at-place.ensures points) in
          let names = named_is c.link_of-link.result.named _ said.named c.if-not-link.false in
          named_on c.args.defs.now deleted c.args.marks.now rows c.loop-index.index c.at-place.result c.before_of-before.result c.at-place.ensures c.before_of-before.ensures names (inv.named m held size up points);
    }
