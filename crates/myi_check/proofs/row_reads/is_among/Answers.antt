use Rattle.std.proofs.Common.{◌∙◌, sym}
use Rattle.myi_check.proofs.ReadLaws.{among_by}
use Rattle.myi_check.proofs.row_reads.is_among.Goals as goal

pub returns : goal.returns
returns c = λ is. among_by c.args.places.now c.args.at c.index_of.result c.index_of.ensures.inside c.index_of.ensures.found (sym c.is_some.ensures ∙ is)
