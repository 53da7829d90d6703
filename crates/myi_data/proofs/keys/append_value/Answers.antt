use Rattle.std.proofs.Common.{◌∙◌, ◌≡◌, ◌≤◌, List, ℕ, length, sym, ap, subst, arith}
use Rattle.myi_keys.specs.Weights.{weights}
use Rattle.myi_pack.specs.Views.{field_value}
use Rattle.myi_data.specs.Keys.{content}
use Rattle.myi_data.proofs.KeyLemmas.{length-row, weigh_part, part_is, part_lies}
use Rattle.myi_data.proofs.keys.append_value.Goals as goal

pub field-requires : goal.field-requires
field-requires c = omega (arith, c.requires.sound.inside, length-row c.requires.row.0 c.args.fields.now c.args.row.now c.requires.row.1)

pub part_of-requires : goal.part_of-requires
part_of-requires c = part_lies c.args.fields.now c.args.row.now c.args.segment.now _ _ c.requires.sound c.requires.row c.start_of-start.ensures (c.in_ok-length.ensures.shown ∙ ap (field_value c.in_ok-length.length) c.in-Plain.is)

pub part_of-requires-2 : goal.part_of-requires-2
part_of-requires-2 c = part_lies c.args.fields.now c.args.row.now c.args.segment.now _ _ c.requires.sound c.requires.row c.start_of-start.ensures (c.in_ok-length.ensures.shown ∙ sym c.in_ok-value_into.ensures ∙ sym c.deref.ensures.value)

pub append_weighed-requires : goal.append_weighed-requires
append_weighed-requires c =
    let value = c.in_ok-length.ensures.shown ∙ ap (field_value c.in_ok-length.length) c.in-Plain.is in
    let same : c.part_of.result.now ≡ content c.args.fields.now c.args.row.now c.args.segment.now = part_is c.args.fields.now c.args.row.now c.args.segment.now _ _ _ c.start_of-start.ensures value c.part_of.ensures in
    record {
      can = weigh_part c.args.fields.now c.args.row.now c.args.segment.now _ _ _ c.requires.sound c.requires.row c.start_of-start.ensures value c.part_of.ensures;
      short = subst (λ (t : List ℕ). length (weights c.args.segment.now t) ≤ 1000) (sym same) c.requires.short;
    }

pub append_weighed-requires-2 : goal.append_weighed-requires-2
append_weighed-requires-2 c =
    let value = c.in_ok-length.ensures.shown ∙ sym c.in_ok-value_into.ensures ∙ sym c.deref.ensures.value in
    let same : c.part_of-2.result.now ≡ content c.args.fields.now c.args.row.now c.args.segment.now = part_is c.args.fields.now c.args.row.now c.args.segment.now _ _ _ c.start_of-start.ensures value c.part_of-2.ensures in
    record {
      can = weigh_part c.args.fields.now c.args.row.now c.args.segment.now _ _ _ c.requires.sound c.requires.row c.start_of-start.ensures value c.part_of-2.ensures;
      short = subst (λ (t : List ℕ). length (weights c.args.segment.now t) ≤ 1000) (sym same) c.requires.short;
    }
