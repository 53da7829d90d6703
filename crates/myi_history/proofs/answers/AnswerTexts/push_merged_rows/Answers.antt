use Rattle.std.proofs.Common.{drop}
use Rattle.myi_history.specs.Answers.{merged_lines}
use Rattle.myi_history.proofs.PartLemmas.{on_err, part_same}
use Rattle.myi_history.proofs.answers.AnswerTexts.push_merged_rows.Goals as goal

pub returns-in_err-push_merged_row-clause-part : goal.returns-in_err-push_merged_row-clause-part
returns-in_err-push_merged_row-clause-part c =
    on_err c.from_residual.result _
    (part_same c.args.out.now.items c.loop-table.out.items c.push_merged_row.new.out.items (merged_lines c.args.found.now) (merged_lines (drop c.loop-table.table-index c.args.found.now)) c.loop-table.invariant c.in_err-push_merged_row.ensures.same)
