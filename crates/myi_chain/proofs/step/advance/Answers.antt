use Rattle.std.proofs.Common.{◌≡◌, ◌∙◌, ◌++◌, refl, sym, ap, subst, arith, inl}
use Rattle.myi_chain.specs.Found.{items_at, MeetsShortAt}
use Rattle.myi_chain.proofs.SourceLemmas.{ready_still, reads_same, reads_then, falls_then, falls_or}
use Rattle.myi_chain.proofs.StepLemmas.{met_end, met_same, meets_same, short_ended, to_same, to_more, to_end, picked_none, picked_short}
use Rattle.myi_chain.proofs.step.advance.Goals as goal

pub loop-position-init : goal.loop-position-init
loop-position-init g c = record {
  later = omega arith;
  within = c.requires.within;
  used = refl;
  holds = refl;
  faults = omega arith;
  reads = reads_same (g.F.Files.holds c.args.files.now) c.args.source.now c.requires.ready;
  falls = inl refl;
  passed = λ m held. to_same _ _ _ refl;
  short = λ m held meets. refl;
}

pub step-requires-clause-ready : goal.step-requires-clause-ready
step-requires-clause-ready g c κs lives = ready_still _ _ _ _ c.loop-position.invariant.holds c.loop-position.invariant.reads

pub step-requires-clause-inside : goal.step-requires-clause-inside
step-requires-clause-inside g c κs lives = omega (arith, c.loop-position-test.true, c.end.ensures)

pub loop-position-preserved : goal.loop-position-preserved
loop-position-preserved g c =
    let was = c.loop-position.invariant in
    let stepped = c.in-Ok.ensures in
    let a = c.args in
    let h = g.F.Files.holds a.files.now in
    let accepts = g.A.Accepts.accepts_gives a.rules.now.test in
    let old = c.loop-position.position in
    let new = c.step.new.position in
    let none = sym c.pick.ensures ∙ c.in_default.is in
    let kept = picked_none a.wanted c.in-Ok.found none c.step.new.source c.step.new.row old.used new.used stepped.kept in
    record {
      later = omega (arith, was.later, stepped.within.0);
      within = stepped.within.1;
      used = kept.1 ∙ was.used;
      holds = stepped.holds ∙ was.holds;
      faults = omega (arith, was.faults, stepped.cause.later);
      reads = reads_then _ _ _ _ _ was.holds was.reads stepped.reads;
      falls = falls_then old.place new.place a.source.now c.loop-position.source c.step.new.source stepped.within.0 was.falls stepped.falls stepped.stays;
      passed = λ m held.
          let told = stepped.told m (was.holds ∙ held) in
          let here = sym (met_same h a.rules.now.extend accepts a.source.now c.loop-position.source old m held was.reads) ∙ told ∙ ap (λ is. items_at c.step.new.source c.step.new.row c.in-Ok.found ++ is) (met_same h a.rules.now.extend accepts a.source.now c.loop-position.source new m held was.reads) in
          to_more a.wanted _ _ _ _ (was.passed m held) kept.0 here;
      short = λ m held meets.
          let here : old ≡ a.position.now = was.short m held meets in
          let now = meets_same h accepts a.source.now c.loop-position.source old m held was.reads (subst (λ p. MeetsShortAt accepts a.source.now p m) (sym here) meets) in
          absurd (picked_short a.wanted c.in-Ok.found none c.loop-position.source m old new (stepped.short m (was.holds ∙ held) now));
    }

pub loop-position-smaller : goal.loop-position-smaller
loop-position-smaller g c = c.in-Ok.ensures.nearer

pub returns-clause-told : goal.returns-clause-told
returns-clause-told g c m held =
    let e = met_end c.args.rules.now.extend (g.A.Accepts.accepts_gives c.args.rules.now.test) c.args.source.now c.loop-position.position m (c.requires.ready m held) (omega (arith, c.loop-position-test.false, c.end.ensures, c.loop-position.invariant.reads.end m held)) in
    (to_end c.args.wanted _ _ (c.loop-position.invariant.passed m held) e, e)

pub returns-clause-short : goal.returns-clause-short
returns-clause-short g c m held meets =
    let was = c.loop-position.invariant.short m held meets in
    short_ended (g.A.Accepts.accepts_gives c.args.rules.now.test) c.args.source.now c.args.position.now m (c.requires.ready m held) (omega (arith, c.loop-position-test.false, c.end.ensures, c.loop-position.invariant.reads.end m held, ap (λ (p : Rattle.myi_chain.specs.declared.step.Position.Position). p.place) was)) meets

pub returns-clause-falls : goal.returns-clause-falls
returns-clause-falls g c = falls_or c.loop-position.position.place c.args.source.now c.loop-position.source c.loop-position.invariant.falls

pub returns-in-Some-clause-falls : goal.returns-in-Some-clause-falls
returns-in-Some-clause-falls g c = falls_or c.loop-position.position.place c.args.source.now c.step.new.source (falls_then c.loop-position.position.place c.loop-position.position.place c.args.source.now c.loop-position.source c.step.new.source (omega arith) c.loop-position.invariant.falls c.step.ensures.falls c.step.ensures.stays)

pub returns-in-Err-clause-falls : goal.returns-in-Err-clause-falls
returns-in-Err-clause-falls g c = falls_or c.loop-position.position.place c.args.source.now c.step.new.source (falls_then c.loop-position.position.place c.loop-position.position.place c.args.source.now c.loop-position.source c.step.new.source (omega arith) c.loop-position.invariant.falls c.step.ensures.falls c.step.ensures.stays)
