use Rattle.myi_tail.proofs.RowLaws.{first_spelled}
use Rattle.myi_tail.proofs.laws.spelled_rows_are_first.Goals as goal

pub returns : goal.returns
returns c = first_spelled
