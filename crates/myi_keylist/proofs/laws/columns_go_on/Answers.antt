use Rattle.myi_keylist.proofs.ColumnLaws.{columns_more}
use Rattle.myi_keylist.proofs.laws.columns_go_on.Goals as goal

pub returns : goal.returns
returns c = λ keys key rows taken last next columns numbers are is. columns_more keys key rows taken last next columns numbers are is
