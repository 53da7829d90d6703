use Rattle.std.proofs.Common.{◌≡◌, length, slice_index_or, ap, arith, inl, inr, sym, ◌∙◌}
use Rattle.std.proofs.lemmas.Bool.{cases_lt}
use Rattle.std.proofs.lemmas.List.{get_or_default}
use Rattle.std.proofs.lemmas.List.Sums.{position_or_len_is}
use Rattle.myi_defs.specs.Conditions.{is_held}
use Rattle.myi_defs.proofs.PlaceLemmas.{not_held, outside_fail, none_passes, no_item}
use Rattle.myi_defs.proofs.places.holder.Goals as goal

pub returns-then-is_held-clause-found : goal.returns-then-is_held-clause-found
returns-then-is_held-clause-found c =
    position_or_len_is (is_held c.args.segment.now) c.args.fields.now c.loop-i.i no_item (omega arith)
    (λ k less. elim (cases_lt k c.near-from.result.0) [
      | inl first ↦ not_held c.args.segment.now (slice_index_or c.args.fields.now k no_item) (inl (c.near-from.ensures.before k no_item first))
      | inr from ↦ c.loop-i.invariant k no_item from less
    ])
    (λ _. sym c.is_held.ensures ∙ c.if-is_held.true)

pub loop-i-preserved : goal.loop-i-preserved
loop-i-preserved c = λ k d from below. elim (cases_lt k c.loop-i.i) [
  | inl less ↦ c.loop-i.invariant k d from less
  | inr most ↦
      let here : k ≡ c.loop-i.i = omega arith in
      let same = ap (λ j. slice_index_or c.args.fields.now j d) here ∙ get_or_default c.args.fields.now c.loop-i.i d no_item (omega arith) in
      ap (is_held c.args.segment.now) same ∙ sym c.is_held.ensures ∙ c.if-is_held.false
]

pub returns-clause-any : goal.returns-clause-any
returns-clause-any c =
    sym (outside_fail (is_held c.args.segment.now) c.args.fields.now c.near-from.result.0 c.near-from.result.1
    (λ k d less. not_held c.args.segment.now (slice_index_or c.args.fields.now k d) (inl (c.near-from.ensures.before k d less)))
    (λ k d from below. c.loop-i.invariant k d from (omega arith))
    (λ k d from inside. not_held c.args.segment.now (slice_index_or c.args.fields.now k d) (inr (c.near-from.ensures.after k d from inside))))

pub returns-clause-none : goal.returns-clause-none
returns-clause-none c =
    position_or_len_is (is_held c.args.segment.now) c.args.fields.now (length c.args.fields.now) no_item (omega arith)
    (λ k less. none_passes (is_held c.args.segment.now) c.args.fields.now (sym (returns-clause-any c)) k no_item less)
    (λ more. absurd (omega arith))
