use Rattle.std.proofs.Common.{ℕ, ◌+◌, ◌-◌, ◌/◌, arith}
use Rattle.myi_placelist.proofs.SearchLemmas.{below_more, above_more}
use Rattle.myi_placelist.proofs.place_list.PlaceList.count_in.Goals as goal

pub loop-from-preserved-then-at-place : goal.loop-from-preserved-then-at-place
loop-from-preserved-then-at-place c =
    let was = c.loop-from.invariant in
    let m : ℕ = c.loop-from.from + (c.loop-from.to - c.loop-from.from) / 2 in
    record {
      order = omega (arith, was.order, c.loop-from-test.true);
      inside = was.inside;
      below = λ up. below_more c.args.place c.args.self.now m (omega (arith, was.inside, was.order, c.loop-from-test.true)) (omega (arith, c.at.ensures, c.if-at-place.true)) up;
      above = was.above;
    }

pub loop-from-preserved : goal.loop-from-preserved
loop-from-preserved c =
    let was = c.loop-from.invariant in
    let m : ℕ = c.loop-from.from + (c.loop-from.to - c.loop-from.from) / 2 in
    record {
      order = omega (arith, was.order, c.loop-from-test.true);
      inside = omega (arith, was.inside, was.order, c.loop-from-test.true);
      below = was.below;
      above = λ up. above_more c.args.place c.args.self.now m (omega (arith, c.at.ensures, c.if-at-place.false)) up;
    }
