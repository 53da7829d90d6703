use Rattle.myi_pair.specs.RecoveredBytes.{kept}
use Rattle.myi_saferepair.proofs.SettleLaws.{kept_settles, data_settles}
use Rattle.myi_saferepair.proofs.laws.safe_repairs_settle.Goals as goal

pub returns-clause-kept : goal.returns-clause-kept
returns-clause-kept c = λ d extend x now e y can left again read any.
    kept_settles d (kept d extend x) now e y left.rebuilt again read any
    (c.repairs_of_rebuilt_files_settle.ensures.kept d (kept d extend x) now (c.kept_rows_make_a_table.ensures.table d extend x now can) any)

pub returns-clause-data_file : goal.returns-clause-data_file
returns-clause-data_file c = λ d extend x now e y can left again read any.
    data_settles d (kept d extend x) now e y left.rebuilt again read any
    (c.repairs_of_rebuilt_files_settle.ensures.data_file d (kept d extend x) now (c.kept_rows_make_a_table.ensures.table d extend x now can) any)
