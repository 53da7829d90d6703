use Rattle.myi_check.proofs.PairsLaws.{not_some, over_left}
use Rattle.std.proofs.Common.{◌∙◌, sym, arith}
use Rattle.myi_check.proofs.pairs_met.PairsMet.first_bad.Goals as goal

pub returns-then-self-len : goal.returns-then-self-len
returns-then-self-len c = λ unique. over_left unique c.args.pairs.now c.args.self.now (not_some c.args.self.now.bad (sym c.is_some.ensures ∙ c.if-is_some.false)) (omega (arith, c.if-self-len.true, c.len.ensures))
