use Rattle.std.proofs.Common.{◌∙◌, arith, ap}
use Rattle.myi_chain.specs.Used.{end_from}
use Rattle.myi_chain.proofs.UsedLemmas.{end_by_last}
use Rattle.myi_chain.proofs.ranges.end_from_far.Goals as goal

pub returns : goal.returns
returns c =
    let e = end_by_last c.args.at 0 c.args.far.now.entries c.requires.order in
    let far = c.end_from.ensures ∙ ap (end_from c.args.at) c.last_far.ensures in
    omega (arith, e, far, c.max.ensures)
