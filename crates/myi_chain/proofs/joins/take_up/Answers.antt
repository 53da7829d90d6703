use Rattle.std.proofs.Common.{◌≡◌, ◌∙◌, None, sym, ap, subst, arith}
use Rattle.std.specs.Ordering.{nat_cmp}
use Rattle.std.specs.Map.{lookup}
use Rattle.std.specs.BTreeMap.{is_at}
use Rattle.myi_chain.proofs.JoinedLemmas.{from_then}
use Rattle.myi_chain.proofs.JoinsLemmas.{takes_up, no_start}
use Rattle.myi_chain.proofs.joins.take_up.Goals as goal

pub loop-end-smaller : goal.loop-end-smaller
loop-end-smaller c =
    let taken = takes_up c.args.place c.loop-end.end c.in-Some.to c.loop-end.far.entries c.remove.new.self.entries c.loop-end.invariant.order (sym c.remove.ensures.value ∙ c.in-Some.is) c.loop-end-test.true c.remove.ensures.entries in
    omega (arith, taken.0, c.loop-end-test.true)

pub loop-end-preserved : goal.loop-end-preserved
loop-end-preserved c =
    let taken = takes_up c.args.place c.loop-end.end c.in-Some.to c.loop-end.far.entries c.remove.new.self.entries c.loop-end.invariant.order (sym c.remove.ensures.value ∙ c.in-Some.is) c.loop-end-test.true c.remove.ensures.entries in
    record { order = taken.1; same = from_then _ _ _ _ taken.2 c.loop-end.invariant.same }

pub returns-in-None-clause-start : goal.returns-in-None-clause-start
returns-in-None-clause-start c start =
    let none = sym c.in-None.is ∙ c.remove.ensures.value ∙ ap (lookup (is_at (nat_cmp c.loop-end.end))) (sym c.in-None.ensures.unchanged) in
    no_start c.remove.new.self.entries (subst (λ k. None ≡ lookup (is_at (nat_cmp k)) c.remove.new.self.entries) start none)
