use Rattle.std.proofs.Common.{drop}
use Rattle.myi_history.specs.Answers.{row_lines}
use Rattle.myi_history.proofs.PartLemmas.{Front}
use Rattle.myi_history.proofs.answers.AnswerTexts.push_rows.Given as goal

abbrev pub invariant-loop-at : goal.invariant-loop-at
invariant-loop-at l = Front l.fn.out.items l.out.items (row_lines l.fn.found) (row_lines (drop l.at-index l.found))
