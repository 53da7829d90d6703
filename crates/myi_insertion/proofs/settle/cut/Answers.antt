use Rattle.std.proofs.Common.{◌-◌, ◌/◌, ◌<◌, ◌≤◌, ℕ, List, length, drop, arith, subst, ap}
use Rattle.std.proofs.lemmas.List.{length-drop}
use Rattle.myi_keypage.specs.declared.entry.Entry.{Entry}
use Rattle.myi_keylist.specs.declared.pair.Pair.{Pair}
use Rattle.myi_btree.specs.Sizes.{IsFitting}
use Rattle.myi_insertion.proofs.WriteLaws.{rest_is, length-entries}
use Rattle.myi_insertion.proofs.CutLaws.{all_fit, some_fit, Fit, well_filled}
use Rattle.myi_insertion.proofs.HalfLaws.{front_half, back_half}
use Rattle.myi_insertion.proofs.settle.cut.Goals as goal

pub returns-then-most-left-clause-all : goal.returns-then-most-left-clause-all
returns-then-most-left-clause-all c =
    let whole = rest_is (c.len.result - c.args.start) c.args.start c.args.pairs.now (ap (λ (n : ℕ). n - c.args.start) c.len.ensures) in
    let f = subst (λ (t : List Entry). IsFitting c.args.place c.args.node t c.fitting_of-most.result) whole (record { inside = c.fitting_of-most.ensures.inside; exact = c.fitting_of-most.ensures.exact }) in
    all_fit c.args.place c.args.node (drop c.args.start c.args.pairs.now) c.fitting_of-most.result f (omega (arith, c.if-most-left.true, c.len.ensures, length-drop c.args.start c.args.pairs.now)) (omega (arith, c.requires.inside, length-drop c.args.start c.args.pairs.now))

pub returns-clause-some : goal.returns-clause-some
returns-clause-some c =
    let whole = rest_is (c.len.result - c.args.start) c.args.start c.args.pairs.now (ap (λ (n : ℕ). n - c.args.start) c.len.ensures) in
    let f = subst (λ (t : List Entry). IsFitting c.args.place c.args.node t c.fitting_of-most.result) whole (record { inside = c.fitting_of-most.ensures.inside; exact = c.fitting_of-most.ensures.exact }) in
    let count : ℕ = c.min-count.result in
    let some : 0 < count = omega (arith, c.if-count-eq0.false) in
    let few : count ≤ c.len.result - c.args.start - 2 = omega (arith, c.min-count.ensures, c.saturating_sub.ensures) in
    let fit : count ≤ c.fitting_of-most.result = omega (arith, c.min-count.ensures, c.min.ensures) in
    (some, omega (arith, c.len.ensures, length-drop c.args.start c.args.pairs.now), some_fit c.args.place c.args.node (drop c.args.start c.args.pairs.now) c.fitting_of-most.result count f some fit)

pub returns-clause-filled : goal.returns-clause-filled
returns-clause-filled c =
    let place = c.args.place in
    let whole = rest_is (c.len.result - c.args.start) c.args.start c.args.pairs.now (ap (λ (n : ℕ). n - c.args.start) c.len.ensures) in
    let f = subst (λ (t : List Entry). Fit place c.args.node t place.block_length c.fitting_of-most.result) whole c.fitting_of-most.ensures.exact in
    let h = subst (λ (t : List Entry). Fit place c.args.node t (place.block_length / 2) c.fitting_of-half.result) whole c.fitting_of-half.ensures.exact in
    let inside = c.fitting_of-most.ensures.inside in
    well_filled place c.args.node (drop c.args.start c.args.pairs.now) c.fitting_of-most.result c.fitting_of-half.result c.min-count.result f h
    (omega (arith, c.len.ensures, length-drop c.args.start c.args.pairs.now, c.if-most-left.false, ap length whole, length-entries (drop c.args.start c.args.pairs.now), inside))
    (omega (arith, c.len.ensures, length-drop c.args.start c.args.pairs.now, c.min-count.ensures, c.min.ensures, c.saturating_sub.ensures)) (omega (arith, c.if-count-eq0.false))

pub returns-clause-front : goal.returns-clause-front
returns-clause-front c =
    let place = c.args.place in
    let left : List Pair = drop c.args.start c.args.pairs.now in
    let whole = rest_is (c.len.result - c.args.start) c.args.start c.args.pairs.now (ap (λ (n : ℕ). n - c.args.start) c.len.ensures) in
    let f = subst (λ (t : List Entry). Fit place c.args.node t place.block_length c.fitting_of-most.result) whole c.fitting_of-most.ensures.exact in
    let h = subst (λ (t : List Entry). Fit place c.args.node t (place.block_length / 2) c.fitting_of-half.result) whole c.fitting_of-half.ensures.exact in
    let inside = c.fitting_of-most.ensures.inside in
    let less : c.fitting_of-most.result < length left = omega (arith, c.len.ensures, length-drop c.args.start c.args.pairs.now, c.if-most-left.false, ap length whole, length-entries left, inside) in
    front_half c.entries_fit.ensures.entry place c.args.node left c.fitting_of-most.result c.min-count.result f less
    (well_filled place c.args.node left c.fitting_of-most.result c.fitting_of-half.result c.min-count.result f h less
    (omega (arith, c.len.ensures, length-drop c.args.start c.args.pairs.now, c.min-count.ensures, c.min.ensures, c.saturating_sub.ensures)) (omega (arith, c.if-count-eq0.false)))

pub returns-clause-back : goal.returns-clause-back
returns-clause-back c =
    let place = c.args.place in
    let left : List Pair = drop c.args.start c.args.pairs.now in
    let whole = rest_is (c.len.result - c.args.start) c.args.start c.args.pairs.now (ap (λ (n : ℕ). n - c.args.start) c.len.ensures) in
    let f = subst (λ (t : List Entry). Fit place c.args.node t place.block_length c.fitting_of-most.result) whole c.fitting_of-most.ensures.exact in
    let h = subst (λ (t : List Entry). Fit place c.args.node t (place.block_length / 2) c.fitting_of-half.result) whole c.fitting_of-half.ensures.exact in
    let inside = c.fitting_of-most.ensures.inside in
    let less : c.fitting_of-most.result < length left = omega (arith, c.len.ensures, length-drop c.args.start c.args.pairs.now, c.if-most-left.false, ap length whole, length-entries left, inside) in
    back_half c.entries_fit.ensures.entry c.entries_fit.ensures.before place c.args.node left c.fitting_of-most.result c.fitting_of-half.result c.min-count.result c.requires.placed f h less
    (omega (arith, c.min-count.ensures, c.min.ensures)) (omega (arith, c.if-count-eq0.false)) (omega (arith, c.len.ensures, length-drop c.args.start c.args.pairs.now, c.min-count.ensures, c.min.ensures, c.saturating_sub.ensures))
