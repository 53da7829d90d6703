use Rattle.std.proofs.Common.{◌≡◌, ◌∙◌, ℕ, suc, ◌-◌, Bool, true, false, List, Some, length, take, drop, replicate, refl, sym, ap, subst, arith}
use Rattle.std.proofs.lemmas.List.{length-replicate}
use Rattle.std.specs.Option.{option_map}
use Rattle.myi_base.specs.Holding.{bytes_of}
use Rattle.myi_window.specs.Excerpt.{Excerpt, StandsIn}
use Rattle.myi_pair.specs.Clean.{next_deleted}
use Rattle.myi_pair.specs.FirstBad.{without, least}
use Rattle.myi_pair.specs.Findings.{names_before, told}
use Rattle.myi_check.specs.ListMet.{unmet}
use Rattle.myi_check.specs.ListWalk.{OfRows, IsGoodIn}
use Rattle.myi_check.proofs.UnmetLemmas.{whole_items, named_is, not_named, pointed_one}
use Rattle.myi_check.proofs.WalkLemmas.{ended_at, stopped_at, broken_at, spent_at, went_on, begun}
use Rattle.myi_check.proofs.list.check_list.Goals as goal

pub returns-then-whole-clause-found : goal.returns-then-whole-clause-found
returns-then-whole-clause-found g c = λ m held d is size up points.
    sym (ap (option_map told) (subst (λ (x : List ℕ). OfRows c.args.defs.now c.args.end c.args.deleted.now (IsGoodIn c.args.defs.now c.args.deleted.now c.args.head) x) is (c.in_ok-whole.ensures.whole c.if-whole.true m held) size up points))

pub loop-step-init : goal.loop-step-init
loop-step-init g c = record {
  holds = c.in_ok-whole.ensures.holds;
  faults = omega (arith, c.in_ok-whole.ensures.cause.later);
  stands = λ m held. subst (λ (w : Excerpt). StandsIn w (bytes_of c.args.rows.now m)) (sym c.in_ok-heads.ensures) refl;
  long = ap length c.in_ok-met.ensures ∙ length-replicate c.len.result false ∙ c.len.ensures;
  ahead = λ n count m held d is size up points. begun (next_deleted c.args.defs.now d) (names_before c.args.defs.now d) n c.args.deleted.now c.in_ok-met.met.items c.widened-at.result c.args.head (omega (arith, count)) (c.in_ok-met.ensures ∙ ap (λ (k : ℕ). replicate k false) c.len.ensures) c.widened-at.ensures;
}

pub loop-step-preserved : goal.loop-step-preserved
loop-step-preserved g c =
    let inv = c.loop-step.invariant in
    let deleted = c.args.deleted.now in
    let met = c.loop-step.met.items in
    let block = c.in-Some-take_out.block in
    let long : length c.take_out.new.met ≡ length met = c.take_out.ensures.long ∙ ap length c.deref_mut.ensures.value in
    let whole = whole_items c.take_out.new.met met c.loop-step.met.len c.loop-step.met.ok.0 long in
    record {
      holds = c.in_ok-count.ensures.holds ∙ inv.holds;
      faults = omega (arith, inv.faults, c.in_ok-count.ensures.cause.later);
      stands = λ m held. c.in_ok-count.ensures.stands m (inv.holds ∙ held) (inv.stands m held);
      long = ap length whole ∙ long ∙ inv.long;
      ahead = λ n count m held d is size up points.
          let front = c.in_ok-count.ensures.told m (inv.holds ∙ held) (inv.stands m held) ∙ ap (λ (x : List ℕ). take 20 (drop block x)) is in
          let said = c.link_of-link.ensures d size front (pointed_one c.args.defs.now c.args.end deleted block (c.in-Some-take_out.ensures.among) points) in
          let same = c.in-Some-take_out.ensures.same in
          let out = ap (λ q. without q (unmet deleted met)) same ∙ ap (λ flags. without c.in-Some.place (unmet deleted flags)) (sym c.deref_mut.ensures.value) ∙ c.in-Some-take_out.ensures.left up ∙ ap (λ (flags : List Bool). Some (unmet deleted flags)) (sym whole) in
          let named : names_before c.args.defs.now d block c.loop-step.before ≡ true = named_is c.link_of-link.result.named _ said.named c.if-not-link.false in
          went_on (next_deleted c.args.defs.now d) (names_before c.args.defs.now d) n (unmet deleted met) _ c.loop-step.before c.loop-step.at _ c.link_of-link.result.next block (c.in-Some.is ∙ ap (λ (q : ℕ). Some q) (sym same)) out named said.next (inv.ahead (suc n) (omega (arith, count)) m held d is size up points);
    }

pub returns-in_default-clause-found : goal.returns-in_default-clause-found
returns-in_default-clause-found g c m held d is size up points =
    let inv = c.loop-step.invariant in
    let deleted = c.args.deleted.now in
    let met = c.loop-step.met.items in
    let n : ℕ = length deleted - c.loop-step._step in
    c.least_left.ensures up ∙ ap (λ (flags : List Bool). option_map told (least (unmet deleted flags))) c.deref.ensures.value
    ∙ ap (option_map told) (ended_at (next_deleted c.args.defs.now d) (names_before c.args.defs.now d) n (unmet deleted met) c.loop-step.before c.loop-step.at _ c.in_default.is (inv.ahead n (omega (arith, c.loop-step-test.true, c.len-step-end.ensures)) m held d is size up points))

pub returns-in_default-take_out-clause-found : goal.returns-in_default-take_out-clause-found
returns-in_default-take_out-clause-found g c m held d is size up points =
    let inv = c.loop-step.invariant in
    let deleted = c.args.deleted.now in
    let met = c.loop-step.met.items in
    let n : ℕ = length deleted - c.loop-step._step in
    let out = ap (λ (flags : List Bool). without c.in-Some.place (unmet deleted flags)) (sym c.deref_mut.ensures.value) ∙ c.in_default-take_out.ensures.left up in
    ap (λ (p : ℕ). Some p) c.told.ensures
    ∙ ap (option_map told) (stopped_at (next_deleted c.args.defs.now d) (names_before c.args.defs.now d) n (unmet deleted met) c.loop-step.before c.loop-step.at _ c.in-Some.place c.in-Some.is out (inv.ahead n (omega (arith, c.loop-step-test.true, c.len-step-end.ensures)) m held d is size up points))

pub returns-then-not-link-clause-found : goal.returns-then-not-link-clause-found
returns-then-not-link-clause-found g c m held d is size up points =
    let inv = c.loop-step.invariant in
    let deleted = c.args.deleted.now in
    let met = c.loop-step.met.items in
    let n : ℕ = length deleted - c.loop-step._step in
    let out = ap (λ (flags : List Bool). without c.in-Some.place (unmet deleted flags)) (sym c.deref_mut.ensures.value) ∙ c.in-Some-take_out.ensures.left up in
    let front = c.in_ok-count.ensures.told m (inv.holds ∙ held) (inv.stands m held) ∙ ap (λ (x : List ℕ). take 20 (drop c.in-Some-take_out.block x)) is in
    let said = c.link_of-link.ensures d size front (pointed_one c.args.defs.now c.args.end deleted c.in-Some-take_out.block (c.in-Some-take_out.ensures.among) points) in
    let named = not_named c.link_of-link.result.named _ said.named c.if-not-link.true in
    let here = ap (λ (p : ℕ). names_before c.args.defs.now d p c.loop-step.before) (sym c.in-Some-take_out.ensures.same) ∙ named in
    ap (λ (p : ℕ). Some p) c.told-then-not-link.ensures
    ∙ ap (option_map told) (broken_at (next_deleted c.args.defs.now d) (names_before c.args.defs.now d) n (unmet deleted met) _ c.loop-step.before c.loop-step.at _ c.in-Some.place c.in-Some.is out here (inv.ahead n (omega (arith, c.loop-step-test.true, c.len-step-end.ensures)) m held d is size up points))

pub returns-in-None-clause-found : goal.returns-in-None-clause-found
returns-in-None-clause-found g c m held d is size up points =
    let inv = c.loop-step.invariant in
    let deleted = c.args.deleted.now in
    let met = c.loop-step.met.items in
    c.least_left-in-None.ensures up ∙ ap (λ (flags : List Bool). option_map told (least (unmet deleted flags))) c.deref-in-None.ensures.value
    ∙ ap (option_map told) (ended_at (next_deleted c.args.defs.now d) (names_before c.args.defs.now d) 0 (unmet deleted met) c.loop-step.before c.loop-step.at _ c.in-None.is (inv.ahead 0 (omega (arith, c.loop-step-test.false, c.loop-step.auto._step-end, c.len-step-end.ensures)) m held d is size up points))

pub returns-clause-found : goal.returns-clause-found
returns-clause-found g c m held d is size up points =
    let inv = c.loop-step.invariant in
    let deleted = c.args.deleted.now in
    let met = c.loop-step.met.items in
    ap (λ (p : ℕ). Some p) c.told-in-Some-at.ensures
    ∙ ap (option_map told) (spent_at (next_deleted c.args.defs.now d) (names_before c.args.defs.now d) 0 (unmet deleted met) c.loop-step.before c.loop-step.at _ c.in-Some-at.place refl c.in-Some-at.is (inv.ahead 0 (omega (arith, c.loop-step-test.false, c.loop-step.auto._step-end, c.len-step-end.ensures)) m held d is size up points))
