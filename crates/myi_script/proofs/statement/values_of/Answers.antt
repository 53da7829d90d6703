use Rattle.std.proofs.Common.{◌∙◌, ◌<◌, sym, refl, subst, length, List}
use Rattle.std.proofs.lemmas.List.Elements.{All-get_or}
use Rattle.myi_defs.specs.declared.types.Field.{Field}
use Rattle.myi_defs.specs.Sound.{IsLengthOf}
use Rattle.myi_script.proofs.ReadingLemmas.{value_none}
use Rattle.myi_script.proofs.FormLemmas.{field_is_form}
use Rattle.myi_script.proofs.statement.values_of.Goals as goal

pub returns-in_default : goal.returns-in_default
returns-in_default c =
    let P : List Field → Type 0 = λ q. c.loop-field.field-index < length q in
    value_none c.loop-field.field-index c.args.defs.now.fields c.loop-field.row.items c.loop-field.rest.now _ (subst P c.as_slice-field-items.ensures c.loop-field-test.true) (sym c.next_value.ensures ∙ rw c.in_default.is refl) c.loop-field.invariant

pub value_of-requires : goal.value_of-requires
value_of-requires c =
    let P : List Field → Type 0 = λ q. c.loop-field.field-index < length q in
    let lt = subst P c.as_slice-field-items.ensures c.loop-field-test.true in
    rw (c.of_field.ensures, c.as_slice-field-items.ensures) (field_is_form c.args.defs.now.format _ (All-get_or (λ f. IsLengthOf c.args.defs.now.format f.kind f.length) c.args.defs.now.fields c.loop-field.field-index _ lt c.requires.lengths))
