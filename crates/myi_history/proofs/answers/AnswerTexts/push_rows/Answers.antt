use Rattle.std.proofs.Common.{drop}
use Rattle.myi_history.specs.Answers.{row_lines}
use Rattle.myi_history.proofs.PartLemmas.{on_err, part_same}
use Rattle.myi_history.proofs.answers.AnswerTexts.push_rows.Goals as goal

pub returns-in_err-push_row-clause-part : goal.returns-in_err-push_row-clause-part
returns-in_err-push_row-clause-part c =
    on_err c.from_residual.result _
    (part_same c.args.out.now.items c.loop-at.out.items c.push_row.new.out.items (row_lines c.args.found.now) (row_lines (drop c.loop-at.at-index c.args.found.now)) c.loop-at.invariant c.in_err-push_row.ensures.same)
