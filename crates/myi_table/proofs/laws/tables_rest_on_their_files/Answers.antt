use Rattle.myi_table.proofs.OtherFiles.{still_there}
use Rattle.myi_table.proofs.laws.tables_rest_on_their_files.Goals as goal

pub returns : goal.returns
returns c = still_there
