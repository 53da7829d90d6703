use Rattle.std.proofs.Common.{◌∙◌, List, sym, ap, arith}
use Rattle.myi_base.specs.Ranges.{Range}
use Rattle.myi_chain.specs.Readable.{end_of}
use Rattle.myi_chain.proofs.UsedLemmas.{end-above}
use Rattle.myi_chain.proofs.range_list.RangeList.is_before.Goals as goal

pub returns-clause-start : goal.returns-clause-start
returns-clause-start c = ap (λ (rs : List Range). end_of 0 rs) (sym c.self.view_is) ∙ end-above 0 1 _ c.self.invariant.order (omega arith)
