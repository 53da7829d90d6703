use Rattle.std.proofs.Common.{ap}
use Rattle.std.proofs.Math.Seq.{map-set_same}
use Rattle.std.proofs.lemmas.List.{map-set}
use Rattle.myi_keycache.specs.declared.lists.Link.{Link}
use Rattle.myi_keycache.proofs.lists.set_before.Goals as goal

pub returns-clause-before : goal.returns-clause-before
returns-clause-before c = map-set (λ (l : Link). l.before) c.args.links.now.items c.args.node _

pub returns-clause-behind : goal.returns-clause-behind
returns-clause-behind c = map-set_same (λ (l : Link). l.behind) c.args.links.now.items c.args.node _ c.index_mut.result.now (ap (λ (l : Link). l.behind) c.index_mut.ensures.value)

pub returns-clause-hot : goal.returns-clause-hot
returns-clause-hot c = map-set_same (λ (l : Link). l.hot) c.args.links.now.items c.args.node _ c.index_mut.result.now (ap (λ (l : Link). l.hot) c.index_mut.ensures.value)
