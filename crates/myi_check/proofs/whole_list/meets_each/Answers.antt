use Rattle.std.proofs.Common.{◌≡◌, ◌≤◌, ℕ, length, get_or, refl, ◌∙◌, arith}
use Rattle.std.proofs.lemmas.Bool.{eqb-true}
use Rattle.std.proofs.lemmas.List.{length-set}
use Rattle.myi_check.proofs.MarkLemmas.{ahead_first, ahead_on, ahead_last, kept_on}
use Rattle.myi_check.proofs.whole_list.meets_each.Goals as goal

pub loop-step-init : goal.loop-step-init
loop-step-init c = record {
  long = refl;
  before = omega arith;
  at = c.requires.head;
  kept = λ k low. refl;
  ahead = ahead_first c.args.unit c.args.places.now c.args.numbers.now c.args.head c.requires.long c.requires.within;
}

pub loop-step-preserved : goal.loop-step-preserved
loop-step-preserved c =
    let inv = c.loop-step.invariant in
    let marks = c.loop-step.numbers in
    let index : ℕ = c.in-Some.index in
    let low : get_or marks index 0 ≤ 2147483647 = omega (arith, c.if-next-ge-FIRST_MARK.false) in
    let long : length marks ≡ length c.args.places.now = inv.long ∙ c.requires.long in
    record {
      long = length-set marks index _ ∙ inv.long;
      before = inv.at;
      at = omega (arith, low);
      kept = kept_on c.args.numbers.now marks index _ (omega (arith, long, c.in-Some.ensures.inside)) (omega arith) inv.kept;
      ahead = ahead_on c.args.unit c.args.places.now c.args.numbers.now marks c.args.head c.loop-step.before c.loop-step.at index c.loop-step._step _ c.in-Some.ensures.found c.in-Some.ensures.inside long (inv.kept index low) low refl inv.ahead;
    }

pub returns-clause-each : goal.returns-clause-each
returns-clause-each c = λ ended.
    ahead_last c.args.unit c.args.places.now c.args.numbers.now c.loop-step.numbers c.args.head c.loop-step.before c.loop-step.at c.loop-step._step (eqb-true c.loop-step.at 0 ended) (omega (arith, c.requires.long, c.loop-step-test.false, c.loop-step.auto._step-end)) c.loop-step.invariant.ahead
