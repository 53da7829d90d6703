use Rattle.myi_tail.proofs.RowLaws.{read, found, once}
use Rattle.myi_tail.proofs.laws.rows_read_back.Goals as goal

pub returns : goal.returns
returns c = record { read = read; found = found; once = once }
