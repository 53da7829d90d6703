use Rattle.myi_keylist.proofs.ColumnLaws.{columns_below, columns_keep}
use Rattle.myi_keylist.proofs.laws.columns_keep_first_rows.Goals as goal

pub returns-clause-below : goal.returns-clause-below
returns-clause-below c = λ keys rows taken last end columns are few. columns_below keys rows taken last end columns are few

pub returns-clause-kept : goal.returns-clause-kept
returns-clause-kept c = λ keys rows some taken last columns are. columns_keep keys rows some taken last columns are
