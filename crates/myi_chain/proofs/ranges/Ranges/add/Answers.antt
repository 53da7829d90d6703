use Rattle.std.proofs.Common.{◌+◌, ◌++◌, ◌∷◌, [], sym, ap, subst, ◌∙◌, arith}
use Rattle.myi_base.specs.Ranges.{Range}
use Rattle.myi_chain.specs.Chain.{AreApart}
use Rattle.std.specs.List.{AllByRecursion}
use Rattle.myi_chain.specs.Used.{IsRange, AreInOrder, reach}
use Rattle.myi_chain.specs.Chain.{ranges_at}
use Rattle.myi_chain.specs.Used.{SameUsed}
use Rattle.myi_chain.proofs.MapLemmas.{far_apart, more_apart, same_far, same_near}
use Rattle.myi_chain.proofs.NearLemmas.{push_order}
use Rattle.myi_chain.proofs.ranges.Ranges.add.Goals as goal

pub put_all-requires-clause-apart : goal.put_all-requires-clause-apart
put_all-requires-clause-apart c =
    let u = c.self.inside in
    far_apart u.near.items u.far.entries (ranges_at c.args.blocks.now) (subst (λ t. AreApart t (ranges_at c.args.blocks.now)) (sym c.self.view_is) c.requires.apart)

pub put_all-requires-2-clause-apart : goal.put_all-requires-2-clause-apart
put_all-requires-2-clause-apart c =
    let u = c.self.inside in
    more_apart u.near.items u.far.entries (ranges_at c.in-Some.more.now) (ranges_at c.args.blocks.now) _ (ap ranges_at c.in-Some.ensures.cases.0) (subst (λ t. AreApart t (ranges_at c.args.blocks.now)) (sym c.self.view_is) c.requires.apart)

pub returns-then-first-reach-clause-ok : goal.returns-then-first-reach-clause-ok
returns-then-first-reach-clause-ok c =
    let u = c.self.inside in
    let rs = ranges_at c.args.blocks.now in
    subst (λ t. SameUsed (u.near.items ++ c.put_all.new.far.entries) (t ++ rs)) c.self.view_is (same_far u.near.items u.far.entries rs _ c.in_ok-put_all.ensures.same)

pub invariant_of-self-in-Ok : goal.invariant_of-self-in-Ok
invariant_of-self-in-Ok c =
    let u = c.self.inside in
    let some = subst (AllByRecursion IsRange) (ap ranges_at c.in-Some.ensures.cases.0) c.requires.some in
    let near = push_order 0 u.near.items (c.in-Some.first.now.0, c.in-Some.first.now.0 + c.in-Some.first.now.1) c.self.invariant.0 (omega (arith, c.reach.ensures ∙ ap (reach 0) c.deref.ensures.value, c.if-first-reach.false)) some.0.0 in
    (subst (AreInOrder 0) (sym c.in_ok-push.ensures.items) near, c.in-Ok.ensures.order)

pub returns-in-Ok-clause-ok : goal.returns-in-Ok-clause-ok
returns-in-Ok-clause-ok c =
    let u = c.self.inside in
    let rs = ranges_at c.args.blocks.now in
    let first : Range = (c.in-Some.first.now.0, c.in-Some.first.now.0 + c.in-Some.first.now.1) in
    let far = c.put_all-2.new.far.entries in
    let same = same_near u.near.items u.far.entries (ranges_at c.in-Some.more.now) rs far first (ap ranges_at c.in-Some.ensures.cases.0) c.in-Ok.ensures.same in
    subst (λ t. SameUsed (t ++ far) (c.args.self.now ++ rs)) (sym c.in_ok-push.ensures.items) (subst (λ t. SameUsed ((u.near.items ++ first ∷ []) ++ far) (t ++ rs)) c.self.view_is same)
