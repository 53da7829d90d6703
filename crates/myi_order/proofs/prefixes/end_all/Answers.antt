use Rattle.std.proofs.Common.{◌∙◌, not, ap, get_or}
use Rattle.myi_order.proofs.PrefixCountLaws.{none_last, one_last}
use Rattle.myi_order.proofs.prefixes.end_all.Goals as goal

pub returns-then-is_none : goal.returns-then-is_none
returns-then-is_none c = λ j few. none_last c.args.last.now (get_or c.args.counts.now j 0) (c.is_none.ensures ∙ ap not c.if-is_none.true)

pub returns : goal.returns
returns c = λ j few. c.count_longer.ensures j few ∙ one_last c.args.last.now (get_or c.args.counts.now j 0) j (c.is_none.ensures ∙ ap not c.if-is_none.false)
