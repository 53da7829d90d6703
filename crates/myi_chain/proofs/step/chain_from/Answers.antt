use Rattle.std.proofs.Common.{◌++◌, sym, ap, subst}
use Rattle.myi_chain.specs.Chain.{tail}
use Rattle.myi_chain.specs.Chain.{ranges_at}
use Rattle.myi_chain.specs.Source.{ChainModel, read_bytes, read_blocks, with_rest, HasFollowed}
use Rattle.myi_chain.specs.ScanModel.{AreBlocksAt}
use Rattle.myi_chain.proofs.SourceLemmas.{lies_one}
use Rattle.myi_chain.proofs.FollowLemmas.{first_more}
use Rattle.myi_chain.proofs.step.chain_from.Goals as goal

pub returns-clause-told : goal.returns-clause-told
returns-clause-told g c m held here =
    let s = c.args.source.now in
    let used = c.args.used.now in
    let followed = subst (λ (w : ChainModel). HasFollowed c.in_ok-found.found c.follow.new.chain.taken (with_rest w.taken (tail (read_blocks s m) w.next (used ++ ranges_at w.taken) w.left))) c.in_ok-begin.ensures (c.in_ok-found.ensures.told m held) in
    subst (λ o. HasFollowed c.in_ok-found.found c.follow.new.chain.taken o) (sym (first_more (read_bytes s m) (read_blocks s m) used c.args.block.now here (sym c.requires.more))) followed

pub returns-clause-lies : goal.returns-clause-lies
returns-clause-lies g c found =
    let s = c.args.source.now in
    let h = c.args.block.now in
    c.in_ok-found.ensures.lies found h.head.at (subst (AreBlocksAt h.head.at s.end) (sym (ap (λ (w : ChainModel). w.taken) c.in_ok-begin.ensures)) (lies_one s.end h c.requires.block))
