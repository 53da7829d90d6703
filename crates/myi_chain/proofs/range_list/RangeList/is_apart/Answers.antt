use Rattle.std.proofs.Common.{◌∙◌, sym, ap}
use Rattle.myi_chain.specs.Used.{is_behind}
use Rattle.myi_chain.proofs.UsedLemmas.{apart_by_last}
use Rattle.myi_chain.proofs.range_list.RangeList.is_apart.Goals as goal

pub returns : goal.returns
returns c =
    let last = c.last_before.ensures in
    c.is_behind.ensures ∙ ap (is_behind c.args.at) last.last ∙ sym (apart_by_last c.args.at c.args.end 1 c.args.self.now last.order)
