use Rattle.myi_spelling.proofs.RowLaws.{begin_with_rows}
use Rattle.myi_spelling.proofs.laws.words_begin_with_those_of_rows.Goals as goal

pub returns : goal.returns
returns c = begin_with_rows
