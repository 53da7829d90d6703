use Rattle.std.proofs.Common.{◌≡◌, ◌++◌, ◌∙◌, [], ap, sym, subst, append-nil}
use Rattle.std.specs.Prelude.{decimal}
use Rattle.std.proofs.lemmas.Result.{on_err_weaker}
use Rattle.myi_rowtext.specs.RowText.{values_text, row_text}
use Rattle.myi_rowtext.proofs.Parts.{Front, front_none, front_more, part_more}
use Rattle.myi_rowtext.proofs.row_texts.RowTexts.push.Goals as goal

pub returns-clause-part : goal.returns-clause-part
returns-clause-part c =
    let number : c.as_bytes.result.now ≡ decimal c.args.at = c.as_bytes.ensures.value ∙ c.in_ok-write.ensures.bytes ∙ ap (λ bs. bs ++ decimal c.args.at) c.clear.ensures.bytes in
    let begun : Front c.args.out.now.items c.extend_from_slice.new.self.items (row_text c.args.at c.args.row.now) (values_text c.args.row.now ++ []) =
    front_more c.args.out.now.items c.args.out.now.items c.extend_from_slice.new.self.items _ (decimal c.args.at) (values_text c.args.row.now ++ [])
    (subst (λ bs. Front c.args.out.now.items c.args.out.now.items (row_text c.args.at c.args.row.now) (decimal c.args.at ++ bs)) (sym (append-nil (values_text c.args.row.now))) (front_none c.args.out.now.items (row_text c.args.at c.args.row.now)))
    (c.in_ok-extend_from_slice.ensures.items ∙ ap (λ bs. c.args.out.now.items ++ bs) number) in
    on_err_weaker c.push_values.result (λ part. part_more c.args.out.now.items c.extend_from_slice.new.self.items c.push_values.new.out.items (row_text c.args.at c.args.row.now) (values_text c.args.row.now) [] begun part) c.push_values.ensures.part
