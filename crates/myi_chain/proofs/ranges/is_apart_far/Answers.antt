use Rattle.std.proofs.Common.{◌∙◌, sym, ap}
use Rattle.myi_chain.specs.Used.{is_behind}
use Rattle.myi_chain.proofs.UsedLemmas.{apart_by_last}
use Rattle.myi_chain.proofs.ranges.is_apart_far.Goals as goal

pub returns : goal.returns
returns c = c.is_behind.ensures ∙ ap (is_behind c.args.at) c.last_far.ensures ∙ sym (apart_by_last c.args.at c.args.end 0 c.args.far.now.entries c.requires.order)
