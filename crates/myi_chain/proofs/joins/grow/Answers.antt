use Rattle.std.proofs.Common.{◌∙◌, sym}
use Rattle.myi_chain.proofs.JoinsLemmas.{is_there, grows_longer}
use Rattle.myi_chain.proofs.joins.grow.Goals as goal

pub set_end-requires : goal.set_end-requires
set_end-requires c = is_there c.args.at _ _ c.args.far.now.entries c.requires.order (sym c.in-Some.is ∙ c.last_far.ensures)

pub returns-clause-grown : goal.returns-clause-grown
returns-clause-grown c ok = (grows_longer c.args.at c.args.to _ _ c.args.far.now.entries c.set_end.new.far.entries c.requires.order (sym c.in-Some.is ∙ c.last_far.ensures) c.if-end-at.false c.requires.apart c.requires.some c.set_end.ensures).1

pub returns-clause-order : goal.returns-clause-order
returns-clause-order c = (grows_longer c.args.at c.args.to _ _ c.args.far.now.entries c.set_end.new.far.entries c.requires.order (sym c.in-Some.is ∙ c.last_far.ensures) c.if-end-at.false c.requires.apart c.requires.some c.set_end.ensures).0
