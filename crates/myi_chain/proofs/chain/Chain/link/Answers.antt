use Rattle.std.proofs.Common.{◌≡◌, ◌∙◌, ◌+◌, ◌++◌, true, sym, ap, subst}
use Rattle.myi_base.specs.Ranges.{is_apart}
use Rattle.myi_chain.specs.Chain.{ranges_at}
use Rattle.myi_chain.specs.Source.{ChainModel, next_by}
use Rattle.myi_chain.proofs.FollowLemmas.{link_same}
use Rattle.myi_chain.proofs.chain.Chain.link.Goals as goal

pub returns-clause-link : goal.returns-clause-link
returns-clause-link c =
    let i = c.self.inside in
    c.next_link.ensures.link ∙ link_same c.args.block.now c.args.used.now i.own (ranges_at i.taken.items) i.left c.self.invariant ∙ ap (λ (w : ChainModel). next_by c.args.block.now (c.args.used.now ++ ranges_at w.taken) w.left) c.self.view_is

pub returns-clause-last : goal.returns-clause-last
returns-clause-last c is = subst (λ (w : ChainModel). is_apart (c.args.block.now.head.at, c.args.block.now.head.at + c.args.block.now.head.size) (ranges_at w.taken) ≡ true) c.self.view_is (sym (c.self.invariant.apart (c.args.block.now.head.at, c.args.block.now.head.at + c.args.block.now.head.size)) ∙ c.next_link.ensures.last is)

pub returns-clause-more : goal.returns-clause-more
returns-clause-more c is = subst (λ (w : ChainModel). is_apart (c.args.block.now.head.at, c.args.block.now.head.at + c.args.block.now.head.size) (ranges_at w.taken) ≡ true) c.self.view_is (sym (c.self.invariant.apart (c.args.block.now.head.at, c.args.block.now.head.at + c.args.block.now.head.size)) ∙ c.next_link.ensures.more is)
