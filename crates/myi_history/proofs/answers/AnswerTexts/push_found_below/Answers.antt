use Rattle.std.proofs.Common.{◌++◌, ◌∙◌, ap, length, filter, nat_lt}
use Rattle.std.proofs.lemmas.Result.{on_err_weaker}
use Rattle.myi_history.specs.Answers.{numbered, count_text, row_lines}
use Rattle.myi_history.proofs.PartLemmas.{part_behind}
use Rattle.myi_history.proofs.answers.AnswerTexts.push_found_below.Goals as goal

pub returns-clause-part : goal.returns-clause-part
returns-clause-part c =
    on_err_weaker c.push_rows_below.result
    (λ part. part_behind c.args.out.now.items c.push_count.new.out.items c.push_rows_below.new.out.items (numbered c.args.line (count_text (length (filter (λ r. nat_lt r.0 c.args.below) c.args.found.now)) c.args.number)) (row_lines (filter (λ r. nat_lt r.0 c.args.below) c.args.found.now))
    (c.in_ok-push_count.ensures.text ∙ ap (λ k. c.args.out.now.items ++ numbered c.args.line (count_text k c.args.number)) c.count_below.ensures) part) c.push_rows_below.ensures.part
