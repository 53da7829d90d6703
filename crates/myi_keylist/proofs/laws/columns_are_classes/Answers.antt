use Rattle.myi_keylist.proofs.ColumnLaws.{columns_share}
use Rattle.myi_keylist.proofs.laws.columns_are_classes.Goals as goal

pub returns : goal.returns
returns c = λ keys rows taken last columns are. columns_share keys rows taken last columns are
