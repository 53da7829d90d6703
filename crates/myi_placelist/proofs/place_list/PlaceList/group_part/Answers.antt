use Rattle.std.proofs.Common.{ℕ, ◌+◌, ◌-◌, ◌/◌, ◌*◌, ◌<◌, length, arith}
use Rattle.myi_placelist.proofs.SearchLemmas.{below_more, above_more}
use Rattle.myi_placelist.proofs.place_list.PlaceList.group_part.Goals as goal

pub loop-to-preserved-then-at-place : goal.loop-to-preserved-then-at-place
loop-to-preserved-then-at-place c =
    let was = c.loop-to.invariant in
    let m : ℕ = c.loop-to.from + (c.loop-to.to - c.loop-to.from) / 2 in
    let inside : m * 64 < length c.args.self.now = omega (arith, was.inside, was.order, c.loop-to-test.true) in
    record {
      order = omega (arith, was.order, c.loop-to-test.true);
      begun = omega (arith, was.inside, was.order, c.loop-to-test.true);
      inside = was.inside;
      below = λ up k lt. below_more c.args.place c.args.self.now (m * 64) inside (omega (arith, c.at.ensures, c.if-at-place.true)) up k (omega (arith, lt));
      above = was.above;
    }

pub loop-to-preserved : goal.loop-to-preserved
loop-to-preserved c =
    let was = c.loop-to.invariant in
    let m : ℕ = c.loop-to.from + (c.loop-to.to - c.loop-to.from) / 2 in
    record {
      order = omega (arith, was.order, c.loop-to-test.true);
      begun = was.begun;
      inside = omega (arith, was.inside, was.order, c.loop-to-test.true);
      below = was.below;
      above = λ up k le lt. above_more c.args.place c.args.self.now (m * 64) (omega (arith, c.at.ensures, c.if-at-place.false)) up k (omega (arith, le)) lt;
    }
