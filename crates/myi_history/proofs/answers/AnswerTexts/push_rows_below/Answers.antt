use Rattle.std.proofs.Common.{drop, filter, nat_lt}
use Rattle.myi_history.specs.Answers.{row_line, row_lines}
use Rattle.myi_history.proofs.PartLemmas.{on_err, part_same, front_passed, front_left, test_yes, test_no}
use Rattle.myi_history.proofs.answers.AnswerTexts.push_rows_below.Goals as goal
use Rattle.myi_history.proofs.answers.AnswerTexts.push_rows_below.Goals.{then-at-below+in_ok-push_row, else-at-below}

pub returns-in_err-push_row-clause-part : goal.returns-in_err-push_row-clause-part
returns-in_err-push_row-clause-part c =
    on_err c.from_residual.result _
    (part_same c.args.out.now.items c.loop-at.out.items c.push_row.new.out.items (row_lines (filter (λ r. nat_lt r.0 c.args.below) c.args.found.now)) (row_lines (filter (λ r. nat_lt r.0 c.args.below) (drop c.loop-at.at-index c.args.found.now))) c.loop-at.invariant c.in_err-push_row.ensures.same)

pub loop-at-preserved : goal.loop-at-preserved
loop-at-preserved c = elim c.if-at-below.branch [
  | then-at-below+in_ok-push_row w ↦ rw w.out-is (front_passed (λ r. nat_lt r.0 c.args.below) row_line c.args.out.now.items c.loop-at.out.items w.push_row.new.out.items _ c.args.found.now c.loop-at.at-index c.loop-at-item.result c.loop-at-test.true c.loop-at-item.is c.loop-at.invariant (test_yes c.loop-at-item.result.0 c.args.below w.if-at-below.true) w.in_ok-push_row.ensures.text)
  | else-at-below w ↦ rw w.out-is (front_left (λ r. nat_lt r.0 c.args.below) row_line c.args.out.now.items c.loop-at.out.items _ c.args.found.now c.loop-at.at-index c.loop-at-item.result c.loop-at-test.true c.loop-at-item.is c.loop-at.invariant (test_no c.loop-at-item.result.0 c.args.below w.if-at-below.false))
]
