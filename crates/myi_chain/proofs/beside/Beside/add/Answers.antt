use Rattle.std.proofs.Common.{◌+◌, ◌++◌, ◌∷◌, ℕ, refl, sym, ap, subst, arith}
use Rattle.std.specs.List.{AllByRecursion}
use Rattle.myi_chain.specs.Chain.{AreApart, ranges_at}
use Rattle.myi_chain.specs.Used.{IsRange, joined, AddsBlocks}
use Rattle.myi_chain.proofs.JoinsLemmas.{blocks_added}
use Rattle.myi_chain.proofs.beside.Beside.add.Goals as goal

pub add_blocks-requires-clause-apart : goal.add_blocks-requires-clause-apart
add_blocks-requires-clause-apart c =
    let u = c.self.inside in
    subst (AreApart (joined u.front ++ u.others.entries)) (ap ranges_at c.in-Some.ensures.cases.0) (subst (λ v. AreApart v (ranges_at c.args.blocks.now)) (sym c.self.view_is) c.requires.apart)

pub add_blocks-requires-clause-first : goal.add_blocks-requires-clause-first
add_blocks-requires-clause-first c =
    let some = subst (λ bs. AllByRecursion IsRange (ranges_at bs)) c.in-Some.ensures.cases.0 c.requires.some in
    some.0.0

pub add_blocks-requires-clause-some : goal.add_blocks-requires-clause-some
add_blocks-requires-clause-some c =
    let some = subst (λ bs. AllByRecursion IsRange (ranges_at bs)) c.in-Some.ensures.cases.0 c.requires.some in
    some.1

pub join_up-self-inside-requires-clause-some : goal.join_up-self-inside-requires-clause-some
join_up-self-inside-requires-clause-some c =
    let some = subst (λ bs. AllByRecursion IsRange (ranges_at bs)) c.in-Some.ensures.cases.0 c.requires.some in
    some.1

pub join_up-self-inside-requires-clause-place : goal.join_up-self-inside-requires-clause-place
join_up-self-inside-requires-clause-place c =
    let first : ℕ × ℕ = c.in-Some.first.now in
    let some = subst (λ bs. AllByRecursion IsRange (ranges_at bs)) c.in-Some.ensures.cases.0 c.requires.some in
    omega (arith, some.0.0)

pub returns-clause-ok : goal.returns-clause-ok
returns-clause-ok c =
    let u = c.self.inside in
    let first : ℕ × ℕ = c.in-Some.first.now in
    let added = c.in_ok-front.ensures in
    let up = c.join_up-self-inside.ensures in
    let adds = blocks_added u.front c.join_up-self-inside.result u.others.entries c.add_blocks.new.far.entries c.join_up-self-inside.new.far.entries first c.in-Some.more.now (first.0 + first.1) refl c.self.invariant.start _ added.same added.plain up.same up.none in
    subst (λ bs. AddsBlocks c.args.self.now bs (joined c.join_up-self-inside.result ++ c.join_up-self-inside.new.far.entries)) (sym c.in-Some.ensures.cases.0) (subst (λ old. AddsBlocks old (first ∷ c.in-Some.more.now) (joined c.join_up-self-inside.result ++ c.join_up-self-inside.new.far.entries)) c.self.view_is adds)
