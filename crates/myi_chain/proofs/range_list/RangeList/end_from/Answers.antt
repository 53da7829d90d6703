use Rattle.std.proofs.Common.{◌∙◌, ap, arith}
use Rattle.myi_chain.specs.Used.{end_from}
use Rattle.myi_chain.proofs.UsedLemmas.{end_by_last}
use Rattle.myi_chain.proofs.range_list.RangeList.end_from.Goals as goal

pub returns : goal.returns
returns c =
    let last = c.last_before.ensures in
    let ends = c.end_from.ensures ∙ ap (end_from c.args.at) last.last in
    omega (arith, ends, end_by_last c.args.at 1 c.args.self.now last.order, c.max.ensures)
