use Rattle.std.proofs.Common.{◌∙◌, ap, arith, sym}
use Rattle.std.proofs.lemmas.Bool.{eqb-false}
use Rattle.myi_chain.specs.Source.{SourceModel}
use Rattle.myi_chain.proofs.SourceLemmas.{last_there}
use Rattle.myi_chain.proofs.source.Source.ends_there.Goals as goal

pub returns-clause-short : goal.returns-clause-short
returns-clause-short g c is m held =
    let h = c.args.block.now in
    let name = sym (c.as_str.ensures.value ∙ ap (λ (s : SourceModel). s.name) c.self.view_is) in
    eqb-false _ _ is (last_there c.args.self.now c.as_str.result.now m h.head.at h.head.size c.in_ok-count.count name (c.requires.ready m held) (omega (arith, c.requires.block.place.least)) c.requires.block.place.inside (c.in_ok-count.ensures.told m held))
