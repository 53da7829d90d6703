use Rattle.std.proofs.Common.{◌≡◌, ◌⊎◌, inl, inr, ℕ, ◌+◌, ◌<◌, ◌≤◌, List, ◌∷◌, get_or, subst, ap, ◌∙◌, arith}
use Rattle.std.proofs.lemmas.Bool.{cases_lt}
use Rattle.myi_placelist.specs.Groups.{places_behind}
use Rattle.myi_placelist.proofs.GroupLemmas.{behind_next, next_place, one_more_below}
use Rattle.myi_placelist.proofs.groups.count_passed.Goals as goal

pub returns-then-at-place-clause-above : goal.returns-then-at-place-clause-above
returns-then-at-place-clause-above c = λ inside.
    let i = c.loop-index.index in
    let next = behind_next c.args.base i c.args.steps.now inside in
    omega (arith, c.if-at-place.true, c.loop-index.invariant.place, next)

pub loop-index-preserved : goal.loop-index-preserved
loop-index-preserved c =
    let i = c.loop-index.index in
    let steps = c.args.steps.now in
    let was = c.loop-index.invariant in
    let next = behind_next c.args.base i steps (omega (arith, c.loop-index-test.true)) in
    record {
      place = next_place (places_behind c.args.base steps) c.args.base i c.loop-index.at _ next was.place;
      room = omega (arith, was.room, c.type_inv.steps i);
      below = one_more_below (places_behind c.args.base steps) i c.args.place was.below (omega (arith, c.if-at-place.false, was.place, next));
    }
