use Rattle.std.proofs.Common.{◌∙◌, sym}
use Rattle.myi_chain.proofs.JoinsLemmas.{is_there, joins_both}
use Rattle.myi_chain.proofs.joins.join_at.Goals as goal

pub set_end-requires : goal.set_end-requires
set_end-requires c = is_there c.args.at _ _ c.args.far.now.entries c.requires.order (sym c.in-Some.is ∙ c.last_far.ensures)

pub returns-clause-same : goal.returns-clause-same
returns-clause-same c = (joins_both c.args.at c.in-Some.from c.in-Some.to c.in-Some-copied.end c.args.far.now.entries c.set_end.new.far.entries c.remove.new.self.entries c.requires.order (sym c.in-Some.is ∙ c.last_far.ensures) c.if-to-at.false (sym c.get.ensures.value ∙ sym c.copied.ensures ∙ c.in-Some-copied.is) c.set_end.ensures c.remove.ensures.entries).1

pub returns-clause-order : goal.returns-clause-order
returns-clause-order c = (joins_both c.args.at c.in-Some.from c.in-Some.to c.in-Some-copied.end c.args.far.now.entries c.set_end.new.far.entries c.remove.new.self.entries c.requires.order (sym c.in-Some.is ∙ c.last_far.ensures) c.if-to-at.false (sym c.get.ensures.value ∙ sym c.copied.ensures ∙ c.in-Some-copied.is) c.set_end.ensures c.remove.ensures.entries).0
