use Rattle.myi_spelling.proofs.RowLaws.{few_rows, few_bytes}
use Rattle.myi_spelling.proofs.laws.rows_are_few.Goals as goal

pub returns : goal.returns
returns c = record { rows = few_rows; bytes = few_bytes }
