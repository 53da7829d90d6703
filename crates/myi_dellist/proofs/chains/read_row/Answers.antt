use Rattle.std.proofs.Common.{◌∙◌, arith}
use Rattle.myi_base.specs.Holding.{bytes_of}
use Rattle.myi_dellist.proofs.ChainLemmas.{reads-next, blocks-more, begins-on}
use Rattle.myi_dellist.proofs.chains.read_row.Goals as goal

pub loop-next-preserved : goal.loop-next-preserved
loop-next-preserved g c =
    let was = c.loop-next.invariant in
    record {
      blocks = blocks-more c.args.end c.loop-next.own.items c.push.new.self.items _ was.blocks (record { place = c.in_ok-step.ensures.place; most = c.in_ok-step.ensures.most }) c.in_ok-push.ensures.items;
      begins = begins-on c.loop-next.next c.in-Some.link c.in_ok-step.step.next c.args.at c.args.end c.in_ok-step.step.size c.in-Some.is was.begins c.in_ok-step.ensures.place;
      holds = c.in_ok-step.ensures.holds ∙ was.holds;
      faults = omega (arith, was.faults, c.in_ok-step.ensures.cause.later);
      so_far = λ m held long. reads-next (bytes_of c.args.name.now m) c.args.at c.loop-next.next c.in-Some.link c.loop-next.own.items c.push.new.self.items c.in_ok-step.step c.in-Some.is (was.so_far m held long) (c.in_ok-step.ensures.told m (was.holds ∙ held) long) c.in_ok-push.ensures.items;
    }
