use Rattle.std.proofs.Common.{List, sym, ap, ◌∙◌, arith}
use Rattle.myi_base.specs.Ranges.{Range}
use Rattle.myi_chain.specs.Readable.{end_of}
use Rattle.myi_chain.proofs.SameLemmas.{end_of-append}
use Rattle.myi_chain.proofs.used.Used.end_from.Goals as goal

pub returns : goal.returns
returns c =
    let s = c.self.inside in
    let both = ap (λ (rs : List Range). end_of c.args.at rs) (sym c.self.view_is) ∙ end_of-append c.args.at s.listed s.beside in
    omega (arith, both, c.end_from.ensures, c.end_from-2.ensures, c.max.ensures)
