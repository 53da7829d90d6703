use Rattle.std.proofs.Common.{drop, filter, nat_lt}
use Rattle.myi_history.specs.Answers.{row_lines}
use Rattle.myi_history.proofs.PartLemmas.{Front}
use Rattle.myi_history.proofs.answers.AnswerTexts.push_rows_below.Given as goal

abbrev pub invariant-loop-at : goal.invariant-loop-at
invariant-loop-at l = Front l.fn.out.items l.out.items (row_lines (filter (λ r. nat_lt r.0 l.fn.below) l.fn.found)) (row_lines (filter (λ r. nat_lt r.0 l.below) (drop l.at-index l.found)))
