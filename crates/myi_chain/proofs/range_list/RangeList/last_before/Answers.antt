use Rattle.std.proofs.Common.{◌≡◌, ◌∙◌, ℕ, ◌-◌, Option, Some, List, refl, sym, ap, arith}
use Rattle.myi_base.specs.Ranges.{Range}
use Rattle.myi_chain.specs.Used.{last_before}
use Rattle.myi_chain.proofs.ListedLemmas.{listed_rise, none_before, inner_before, outer_before}
use Rattle.myi_chain.proofs.range_list.RangeList.last_before.Goals as goal

at_both : {f g t u : ℕ} → f ≡ g → t ≡ u → ◌≡◌ {A = Option Range} (Some (f, t)) (Some (g, u))
at_both e h = rw (e, h) refl

pub returns-then-count-eq0-clause-last : goal.returns-then-count-eq0-clause-last
returns-then-count-eq0-clause-last c =
    let s = c.self.inside in
    let n = c.count_below-count in
    let none = none_before s.froms s.tos s.last_to c.args.end n.result c.self.invariant n.ensures.few (n.ensures.count (listed_rise s.froms s.tos s.last_to c.self.invariant)) c.if-count-eq0.true in
    sym (ap (λ (rs : List Range). last_before c.args.end rs) (sym c.self.view_is) ∙ none)

pub returns-then-index-len-clause-last : goal.returns-then-index-len-clause-last
returns-then-index-len-clause-last c =
    let s = c.self.inside in
    let n = c.count_below-count in
    let count = n.ensures.count (listed_rise s.froms s.tos s.last_to c.self.invariant) in
    let found = inner_before s.froms s.tos s.last_to c.args.end n.result (n.result - 1) c.self.invariant n.ensures.few count (omega (arith, c.if-count-eq0.false)) (omega (arith, c.if-index-len.true, c.len.ensures)) in
    at_both c.at.ensures c.at-then-index-len.ensures ∙ sym found ∙ ap (λ (rs : List Range). last_before c.args.end rs) c.self.view_is

pub returns-clause-last : goal.returns-clause-last
returns-clause-last c =
    let s = c.self.inside in
    let n = c.count_below-count in
    let count = n.ensures.count (listed_rise s.froms s.tos s.last_to c.self.invariant) in
    let found = outer_before s.froms s.tos s.last_to c.args.end n.result (n.result - 1) c.self.invariant n.ensures.few count (omega (arith, c.if-count-eq0.false)) (omega (arith, c.if-index-len.false, c.len.ensures)) in
    at_both c.at-2.ensures refl ∙ sym found ∙ ap (λ (rs : List Range). last_before c.args.end rs) c.self.view_is
