use Rattle.myi_keytrees.proofs.FlushLaws.{stand_elsewhere}
use Rattle.myi_keytrees.proofs.laws.other_files_may_change.Goals as goal

pub returns : goal.returns
returns c = record { stand = stand_elsewhere }
