use Rattle.std.proofs.Common.{◌≡◌, ◌-◌, ℕ, List, length, drop, arith, subst, sym, ap, ◌∙◌}
use Rattle.std.proofs.lemmas.List.{length-drop}
use Rattle.myi_keypage.specs.declared.entry.Entry.{Entry}
use Rattle.myi_btree.specs.Sizes.{IsFitting}
use Rattle.myi_btree.proofs.BodyLaws.{rest_is}
use Rattle.myi_btree.proofs.FitCount.{takes, one_of, then_count, else_count}
use Rattle.myi_btree.proofs.level.page_count.Goals as goal

pub overflow_sub-result : goal.overflow_sub-result
overflow_sub-result c =
    let whole = rest_is (c.len.result - c.args.start) c.args.start c.args.pairs.now (ap (λ (n : ℕ). n - c.args.start) c.len.ensures) in
    let f = subst (λ (t : List Entry). IsFitting c.args.place c.args.node t c.fitting_of-most.result) whole (record { inside = c.fitting_of-most.ensures.inside; exact = c.fitting_of-most.ensures.exact }) in
    one_of c.args.place c.args.node (drop c.args.start c.args.pairs.now) c.fitting_of-most.result c.requires.sized f (omega (arith, length-drop c.args.start c.args.pairs.now, c.requires.some))

pub returns-then-left-most-eq1-clause-count : goal.returns-then-left-most-eq1-clause-count
returns-then-left-most-eq1-clause-count c =
    let whole = rest_is (c.len.result - c.args.start) c.args.start c.args.pairs.now (ap (λ (n : ℕ). n - c.args.start) c.len.ensures) in
    let f = subst (λ (t : List Entry). IsFitting c.args.place c.args.node t c.fitting_of-most.result) whole (record { inside = c.fitting_of-most.ensures.inside; exact = c.fitting_of-most.ensures.exact }) in
    let left : c.len.result - c.args.start ≡ length (drop c.args.start c.args.pairs.now) = omega (arith, c.len.ensures, length-drop c.args.start c.args.pairs.now) in
    takes c.args.place c.args.node (drop c.args.start c.args.pairs.now) c.fitting_of-most.result _ c.requires.sized f (omega (arith, length-drop c.args.start c.args.pairs.now, c.requires.some))
    (then_count (length (drop c.args.start c.args.pairs.now)) c.fitting_of-most.result (sym (ap (λ (n : ℕ). n - c.fitting_of-most.result) left) ∙ c.if-left-most-eq1.true))

pub returns-else-left-most-eq1-clause-count : goal.returns-else-left-most-eq1-clause-count
returns-else-left-most-eq1-clause-count c =
    let whole = rest_is (c.len.result - c.args.start) c.args.start c.args.pairs.now (ap (λ (n : ℕ). n - c.args.start) c.len.ensures) in
    let f = subst (λ (t : List Entry). IsFitting c.args.place c.args.node t c.fitting_of-most.result) whole (record { inside = c.fitting_of-most.ensures.inside; exact = c.fitting_of-most.ensures.exact }) in
    let left : c.len.result - c.args.start ≡ length (drop c.args.start c.args.pairs.now) = omega (arith, c.len.ensures, length-drop c.args.start c.args.pairs.now) in
    takes c.args.place c.args.node (drop c.args.start c.args.pairs.now) c.fitting_of-most.result _ c.requires.sized f (omega (arith, length-drop c.args.start c.args.pairs.now, c.requires.some))
    (else_count (length (drop c.args.start c.args.pairs.now)) c.fitting_of-most.result (λ e. c.if-left-most-eq1.false (ap (λ (n : ℕ). n - c.fitting_of-most.result) left ∙ e)))
