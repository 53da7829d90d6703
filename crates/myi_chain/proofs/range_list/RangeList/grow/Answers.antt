use Rattle.std.proofs.Common.{◌≡◌, ◌∙◌, ◌<◌, ℕ, List, [], ◌∷◌, ◌++◌, length, ap, subst, arith}
use Rattle.myi_base.specs.Ranges.{Range}
use Rattle.myi_chain.specs.Used.{SameFrom, listed}
use Rattle.myi_chain.proofs.ListedLemmas.{grown}
use Rattle.myi_chain.proofs.range_list.RangeList.grow.Goals as goal

pub invariant_of-self : goal.invariant_of-self
invariant_of-self c =
    let s = c.self.inside in
    let room : length s.tos < length s.froms = omega (arith, c.if-len.false, c.len.ensures, c.len-else-at-self.ensures, c.self.invariant.fewer) in
    (grown s.froms s.tos s.last_to c.args.at c.args.end c.self.invariant (omega (arith, c.if-at-self.false)) room c.requires.some).listed

pub returns-clause-grown : goal.returns-clause-grown
returns-clause-grown c is =
    let s = c.self.inside in
    let here : c.args.at ≡ s.last_to = omega (arith, c.if-at-self.false) in
    let room : length s.tos < length s.froms = omega (arith, c.if-len.false, c.len.ensures, c.len-else-at-self.ensures, c.self.invariant.fewer) in
    let more = grown s.froms s.tos s.last_to c.args.at c.args.end c.self.invariant here room c.requires.some in
    subst (λ (old : List Range). SameFrom c.args.end (listed s.froms s.tos c.args.end) (old ++ (c.args.at, c.args.end) ∷ [])) (ap (λ (n : ℕ). listed s.froms s.tos n) here ∙ c.self.view_is) more.same
