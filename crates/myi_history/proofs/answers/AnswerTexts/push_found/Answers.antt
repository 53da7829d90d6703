use Rattle.std.proofs.Common.{length}
use Rattle.std.proofs.lemmas.Result.{on_err_weaker}
use Rattle.myi_history.specs.Answers.{numbered, count_text, row_lines}
use Rattle.myi_history.proofs.PartLemmas.{part_behind}
use Rattle.myi_history.proofs.answers.AnswerTexts.push_found.Goals as goal

pub returns-clause-part : goal.returns-clause-part
returns-clause-part c =
    on_err_weaker c.push_rows.result
    (λ part. part_behind c.args.out.now.items c.push_count.new.out.items c.push_rows.new.out.items (numbered c.args.line (count_text (length c.args.found.now) c.args.number)) (row_lines c.args.found.now)
    c.in_ok-push_count.ensures.text part) c.push_rows.ensures.part
