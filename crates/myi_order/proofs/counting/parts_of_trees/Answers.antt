use Rattle.std.proofs.Common.{◌∙◌, sym, subst, arith}
use Rattle.std.specs.List.{AllByRecursion}
use Rattle.std.proofs.Common.{◌<◌, ◌^◌}
use Rattle.myi_order.specs.Numbers.{all_per}
use Rattle.myi_order.proofs.PartsLaws.{parts_more, small_more}
use Rattle.myi_order.proofs.counting.parts_of_trees.Goals as goal

pub loop-at-preserved : goal.loop-at-preserved
loop-at-preserved g c =
    let was = c.loop-at.invariant in
    let one = c.in_ok-parts_of_tree.ensures in
    let old = c.loop-at.parts.items in
    let p = c.in_ok-parts_of_tree.field-0 in
    record {
      holds = c.parts_of_tree.ensures.holds ∙ was.holds;
      faults = omega (arith, was.faults, c.parts_of_tree.ensures.cause.later);
      small = subst (λ ps. AllByRecursion (λ n. n < 256 ^ 4) (all_per ps)) (sym c.in_ok-push.ensures.items) (small_more old p was.small one.small);
      told = λ m held x is lists have.
          parts_more c.args.defs.now lists c.args.roots.now x c.loop-at.at old c.push.new.self.items _ p (omega (arith, c.loop-at-test.true)) (one.counts m (was.holds ∙ held) x is) have (was.told m held x is lists have) c.in_ok-push.ensures.items;
    }
