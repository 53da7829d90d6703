use Rattle.std.proofs.Common.{◌∙◌, Some, sym, refl, arith, ◌+◌}
use Rattle.myi_check.proofs.PairsLaws.{not_some, noted_next}
use Rattle.myi_check.proofs.pairs_met.PairsMet.note.Goals as goal

pub returns-then-is_next-clause-noted : goal.returns-then-is_next-clause-noted
returns-then-is_next-clause-noted c = λ left.
    let none = not_some c.args.self.now.bad (sym c.is_some.ensures ∙ c.if-is_some.false) in
    noted_next c.args.unique c.args.pairs.now c.args.self.now (record { count = c.args.self.now.count + 1; last = Some c.args.met; bad = c.args.self.now.bad }) c.args.met c.args.at left none (omega (arith, c.if-self-len.true, c.len.ensures)) (sym c.is_next.ensures ∙ c.if-is_next.true) refl refl none
