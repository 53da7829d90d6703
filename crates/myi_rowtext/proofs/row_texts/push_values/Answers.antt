use Rattle.std.proofs.Common.{◌∷◌, ◌++◌, ◌∙◌, ℕ, List, ap, sym, subst, codes}
use Rattle.myi_pack.specs.Packed.{Values}
use Rattle.myi_rowtext.specs.RowText.{value_text, values_text}
use Rattle.myi_rowtext.proofs.Parts.{Front, on_err, part_same, part_more, front_part, front_more, shown_next}
use Rattle.myi_rowtext.proofs.row_texts.push_values.Goals as goal

pub returns-in_err-value_into-clause-part : goal.returns-in_err-value_into-clause-part
returns-in_err-value_into-clause-part c =
    on_err c.from_residual.result _ (front_part _ c.loop-length.out.items _ (values_text c.loop-length.fields) c.loop-length.invariant)

pub returns-in_err-push-clause-part : goal.returns-in_err-push-clause-part
returns-in_err-push-clause-part c =
    on_err c.from_residual-in_err-push.result _ (part_same _ c.loop-length.out.items c.push.new.self.items _ (values_text c.loop-length.fields) c.loop-length.invariant c.in_err-push.ensures.items)

pub returns-in_err-push_value-clause-part : goal.returns-in_err-push_value-clause-part
returns-in_err-push_value-clause-part c =
    let value = c.deref.result.now in
    let left : Front c.args.out.now.items c.loop-length.out.items (values_text c.args.row.now) (codes " " ++ (value_text value ++ values_text c.next_with_length.new.self)) =
    subst (λ (row : Values). Front c.args.out.now.items c.loop-length.out.items (values_text c.args.row.now) (values_text row)) (shown_next c.loop-length.fields c.next_with_length.new.self c.in-Some.length c.in-Some.shown c.in-Some.ensures ∙ ap (λ (v : List ℕ). v ∷ c.next_with_length.new.self) (sym (c.deref.ensures.value ∙ c.in_ok-value_into.ensures))) c.loop-length.invariant in
    let behind : Front c.args.out.now.items c.push.new.self.items (values_text c.args.row.now) (value_text value ++ values_text c.next_with_length.new.self) =
    front_more _ c.loop-length.out.items c.push.new.self.items _ (codes " ") (value_text value ++ values_text c.next_with_length.new.self) left c.in_ok-push.ensures.items in
    on_err c.from_residual-in_err-push_value.result _ (part_more _ c.push.new.self.items c.push_value.new.out.items _ (value_text value) (values_text c.next_with_length.new.self) behind c.in_err-push_value.ensures.part)
