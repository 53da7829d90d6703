use Rattle.std.proofs.Common.{slice_index_or, arith, inl, inr, sym}
use Rattle.myi_defs.specs.declared.header.FieldItem.{FieldItem}
use Rattle.myi_defs.specs.Conditions.{is_plain_as}
use Rattle.myi_defs.proofs.PlaceLemmas.{not_plain, outside_fail}
use Rattle.myi_defs.proofs.places.is_plain.Goals as goal

pub returns : goal.returns
returns c =
    sym (outside_fail (λ (f : FieldItem). is_plain_as c.args.place f f.kind) c.args.fields.now c.near-from.result.0 c.near-from.result.1
    (λ k d less. not_plain c.args.place (slice_index_or c.args.fields.now k d) (inl (c.near-from.ensures.before k d less)))
    (λ k d from below. c.loop-i.invariant k d from (omega arith))
    (λ k d from inside. not_plain c.args.place (slice_index_or c.args.fields.now k d) (inr (c.near-from.ensures.after k d from inside))))
