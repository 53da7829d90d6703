use Rattle.std.proofs.Common.{◌∙◌, ◌<◌, sym, arith}
use Rattle.myi_chain.proofs.JoinedLemmas.{from_then}
use Rattle.myi_chain.proofs.JoinsLemmas.{before_under}
use Rattle.myi_chain.proofs.joins.join_between.Goals as goal

pub loop-from-smaller : goal.loop-from-smaller
loop-from-smaller c = before_under _ _ _ (sym c.last_far.ensures ∙ c.in-Some.is)

pub loop-from-preserved : goal.loop-from-preserved
loop-from-preserved c =
    let under : c.in-Some.from < c.loop-from.at = before_under c.loop-from.at c.loop-from.far.entries (c.in-Some.from, c.in-Some.field-0-1) (sym c.last_far.ensures ∙ c.in-Some.is) in
    let was = c.loop-from.invariant in
    record {
      order = c.join_at.ensures.order;
      same = from_then _ _ _ _ (c.join_at.ensures.same c.args.high (omega (arith, under, was.within))) was.same;
      within = omega (arith, under, was.within);
    }
