use Rattle.std.proofs.Common.{◌∙◌, sym}
use Rattle.myi_check.proofs.UnmetLemmas.{out_none, out_met, out_left, elements_same}
use Rattle.myi_check.proofs.list.take_out.Goals as goal

pub returns-in_default-clause-left : goal.returns-in_default-clause-left
returns-in_default-clause-left c = λ up. out_none c.args.place c.args.places.now c.args.met.now (c.index_of.ensures.none c.in_default.is up)

pub returns-then-met-index-clause-left : goal.returns-then-met-index-clause-left
returns-then-met-index-clause-left c = λ up. out_met c.args.place c.args.places.now c.args.met.now c.in-Some.index up c.in-Some.ensures.inside c.in-Some.ensures.found c.if-met-index.true

pub returns-clause-left : goal.returns-clause-left
returns-clause-left c = λ up. out_left c.args.place c.args.places.now c.args.met.now c.in-Some.index up c.requires c.in-Some.ensures.inside c.in-Some.ensures.found c.if-met-index.false

pub returns-clause-among : goal.returns-clause-among
returns-clause-among c = (c.in-Some.index, c.in-Some.ensures.inside, λ other. elements_same c.args.places.now c.in-Some.index other 0 c.in-Some.ensures.inside ∙ sym c.at.ensures)
