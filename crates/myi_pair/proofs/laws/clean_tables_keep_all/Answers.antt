use Rattle.myi_pair.proofs.RecoveredLaws.{clean_kept}
use Rattle.myi_pair.proofs.laws.clean_tables_keep_all.Goals as goal

pub returns : goal.returns
returns c = clean_kept
