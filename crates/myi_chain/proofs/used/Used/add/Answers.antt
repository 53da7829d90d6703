use Rattle.std.proofs.Common.{◌≡◌, ◌++◌, ◌∷◌, [], ◌∙◌, ℕ, List, sym, ap, subst}
use Rattle.myi_base.specs.Ranges.{Range}
use Rattle.myi_chain.specs.Chain.{AreApart, ranges_at}
use Rattle.myi_chain.specs.Used.{AddsBlocks}
use Rattle.myi_chain.proofs.MapLemmas.{far_apart}
use Rattle.myi_chain.proofs.ListedLemmas.{adds_one, adds_beside, on_ok, is_none}
use Rattle.myi_chain.proofs.used.Used.add.Goals as goal

pub returns-then-not-ends_at-clause-ok : goal.returns-then-not-ends_at-clause-ok
returns-then-not-ends_at-clause-ok c =
    let s = c.self.inside in
    let first : ℕ × ℕ = c.in-Some.first.now in
    let alone : c.in-Some.more.now ≡ [] = is_none c.in-Some.more.now c.is_empty.result c.is_empty.ensures c.if-is_empty.true in
    let one : c.args.blocks.now ≡ first ∷ [] = c.in-Some.ensures.cases.0 ∙ ap (λ (bs : List (ℕ × ℕ)). first ∷ bs) alone in
    let new : List Range = c.add.new.self ++ s.beside in
    on_ok c.add.result (λ same.
    subst (λ (bs : List (ℕ × ℕ)). AddsBlocks c.args.self.now bs new) (sym one) (subst (λ (old : List Range). AddsBlocks old (first ∷ []) new) c.self.view_is (adds_one s.listed s.beside c.add.new.self first c.is_before.ensures.start (c.ends_at.ensures.front c.if-not-ends_at.true) same))) c.add.ensures.ok

pub add-requires-2-clause-apart : goal.add-requires-2-clause-apart
add-requires-2-clause-apart c =
    let s = c.self.inside in
    far_apart s.listed s.beside (ranges_at c.args.blocks.now) (subst (λ (old : List Range). AreApart old (ranges_at c.args.blocks.now)) (sym c.self.view_is) c.requires.apart)

pub returns-clause-ok : goal.returns-clause-ok
returns-clause-ok c =
    let s = c.self.inside in
    on_ok c.add-2.result (λ adds.
    subst (λ (old : List Range). AddsBlocks old c.args.blocks.now (s.listed ++ c.add-2.new.self)) c.self.view_is (adds_beside s.listed s.beside c.add-2.new.self c.args.blocks.now c.is_before.ensures.start adds)) c.add-2.ensures.ok
