use Rattle.std.proofs.Common.{length}
use Rattle.myi_rowtext.specs.RowText.{values_text}
use Rattle.myi_rowtext.proofs.Parts.{Front}
use Rattle.myi_rowtext.proofs.row_texts.push_values.Given as goal

abbrev pub invariant-loop-length : goal.invariant-loop-length
invariant-loop-length l = Front l.fn.out.items l.out.items (values_text l.fn.row) (values_text l.fields)

abbrev pub decreases-loop-length : goal.decreases-loop-length
decreases-loop-length l = length l.fields
