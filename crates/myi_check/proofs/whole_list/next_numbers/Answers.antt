use Rattle.std.proofs.Common.{◌≡◌, ◌<◌, ◌^◌, ◌∙◌, ◌∷◌, ℕ, List, [], length, get_or, refl, sym, ap, subst, arith, length-append}
use Rattle.myi_base.specs.Holding.{bytes_of}
use Rattle.myi_window.specs.Excerpt.{Excerpt, StandsIn}
use Rattle.myi_pair.specs.Clean.{next_deleted}
use Rattle.myi_check.specs.ListWalk.{unit_in, place_of}
use Rattle.myi_check.proofs.WholeLemmas.{more_each, none_below, pointed_at, next_on}
use Rattle.myi_check.proofs.whole_list.next_numbers.Goals as goal

pub loop-index-init : goal.loop-index-init
loop-index-init g c =
    let none : length c.in_ok-numbers.numbers.items ≡ 0 = ap length c.in_ok-numbers.ensures.items in
    record {
      holds = refl;
      faults = omega arith;
      stands = λ m held. subst (λ (w : Excerpt). StandsIn w (bytes_of c.args.rows.now m)) (sym c.in_ok-heads.ensures) refl;
      long = none;
      within = none_below (λ k. get_or c.in_ok-numbers.numbers.items k 0 < 2 ^ 31) _ none;
      unit = c.unit_of-unit.ensures.unit;
      next = λ m held size up points. none_below (λ k. next_deleted c.args.defs.now (bytes_of c.args.rows.now m) (get_or c.args.deleted.now k 0) ≡ place_of (unit_in c.args.defs.now) (get_or c.in_ok-numbers.numbers.items k 0)) _ none;
    }

pub loop-index-preserved : goal.loop-index-preserved
loop-index-preserved g c =
    let inv = c.loop-index.invariant in
    let deleted = c.args.deleted.now in
    let xs = c.loop-index.numbers.items in
    let inside : c.loop-index.index < length deleted = omega (arith, c.loop-index-test.true, c.len-index-end.ensures) in
    let pushed = c.in_ok-push.ensures.items in
    record {
      holds = c.in_ok-count.ensures.holds ∙ inv.holds;
      faults = omega (arith, inv.faults, c.in_ok-count.ensures.cause.later);
      stands = λ m held. c.in_ok-count.ensures.stands m (inv.holds ∙ held) (inv.stands m held);
      long = omega (arith, ap (λ (ys : List ℕ). length ys) pushed, length-append xs (c.in-Some.number ∷ []), inv.long);
      within = subst (λ (ys : List ℕ). (k : ℕ) → k < length ys → get_or ys k 0 < 2 ^ 31) (sym pushed) (more_each (λ k n. n < 2 ^ 31) xs c.in-Some.number inv.within c.in-Some.ensures.within);
      unit = inv.unit;
      next = λ m held size up points.
          let rows = bytes_of c.args.rows.now m in
          let front = c.in_ok-count.ensures.told m (inv.holds ∙ held) (inv.stands m held) in
          let said = c.link_of-link.ensures rows size front (pointed_at c.args.defs.now c.args.end deleted c.loop-index.index c.at-place.result inside c.at-place.ensures points) in
          subst (λ (ys : List ℕ). (k : ℕ) → k < length ys → next_deleted c.args.defs.now rows (get_or deleted k 0) ≡ place_of (unit_in c.args.defs.now) (get_or ys k 0)) (sym pushed)
          (next_on c.args.defs.now (unit_in c.args.defs.now) deleted xs rows c.loop-index.index c.at-place.result c.in-Some.number c.link_of-link.result inv.long c.at-place.ensures said.next (c.in-Some.ensures.place ∙ ap (λ (u : ℕ). place_of u c.in-Some.number) inv.unit) (inv.next m held size up points));
    }
