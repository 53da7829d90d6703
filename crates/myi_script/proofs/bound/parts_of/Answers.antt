use Rattle.std.proofs.Common.{◌∙◌, ap, sym, subst, All, ◌∷◌, [], List, length, arith, length-append, refl}
use Rattle.std.proofs.lemmas.List.Elements.{All-push}
use Rattle.myi_keys.specs.declared.values.KeySeg.{KeySeg}
use Rattle.std.specs.Prelude.{IfSome, Option}
use Rattle.myi_keys.specs.Limits.{IsSeg}
use Rattle.myi_script.proofs.ReadingLemmas.{part_none, part_more}
use Rattle.myi_script.proofs.bound.parts_of.Goals as goal

pub returns-in_default-clause-value : goal.returns-in_default-clause-value
returns-in_default-clause-value c = part_none c.loop-segment.mark c.loop-segment.segment-index c.args.segments.now c.loop-segment.parts.items c.loop-segment.rest.now _ c.loop-segment-test.true (sym c.next_value.ensures ∙ rw c.in_default.is refl) c.loop-segment.invariant.so_far

pub loop-segment-preserved : goal.loop-segment-preserved
loop-segment-preserved c = record {
  so_far = part_more c.loop-segment.mark c.loop-segment.segment-index c.args.segments.now _ c.in-Some-2.part c.loop-segment.parts.items _ c.loop-segment.rest.now c.in-Some.word.now c.in-Some.more.now _ c.loop-segment-test.true
      (sym c.next_value.ensures ∙ rw c.in-Some.is refl) (sym c.in_ok-part.ensures.value ∙ c.in-Some-2.is) c.in_ok-push.ensures.items c.loop-segment.invariant.so_far;
  short = (
      let P : Option KeySeg → Type 0 = λ o. IfSome o IsSeg in
      let Q : List KeySeg → Type 0 = λ q. All IsSeg q in
      subst Q (sym c.in_ok-push.ensures.items) (All-push IsSeg c.loop-segment.parts.items c.in-Some-2.part c.loop-segment.invariant.short (subst P c.in-Some-2.is c.in_ok-part.ensures.short)));
  count = ap length c.in_ok-push.ensures.items ∙ omega (arith, length-append c.loop-segment.parts.items (c.in-Some-2.part ∷ []), c.loop-segment.invariant.count);
}
