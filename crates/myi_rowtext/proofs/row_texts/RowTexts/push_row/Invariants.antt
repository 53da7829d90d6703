use Rattle.std.proofs.Common.{◌≡◌, ◌++◌, drop}
use Rattle.myi_rowtext.specs.RowText.{values_text, row_text}
use Rattle.myi_rowtext.proofs.row_texts.RowTexts.push_row.Given as goal

abbrev pub invariant-loop-value : goal.invariant-loop-value
invariant-loop-value l = l.out.items ++ values_text (drop l.value-index l.row) ≡ l.fn.out.items ++ row_text l.fn.at l.row
