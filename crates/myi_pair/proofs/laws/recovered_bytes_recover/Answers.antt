use Rattle.myi_pair.proofs.RecoveredLaws.{recovered}
use Rattle.myi_pair.proofs.laws.recovered_bytes_recover.Goals as goal

pub returns : goal.returns
returns c = recovered
