use Rattle.std.proofs.Common.{drop}
use Rattle.myi_history.specs.Answers.{merged_lines}
use Rattle.myi_history.proofs.PartLemmas.{Front}
use Rattle.myi_history.proofs.answers.AnswerTexts.push_merged_rows.Given as goal

abbrev pub invariant-loop-table : goal.invariant-loop-table
invariant-loop-table l = Front l.fn.out.items l.out.items (merged_lines l.fn.found) (merged_lines (drop l.table-index l.found))
