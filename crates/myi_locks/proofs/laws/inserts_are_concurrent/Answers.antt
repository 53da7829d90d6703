use Rattle.myi_locks.proofs.TogetherLemmas.{concurrent_inserts}
use Rattle.myi_locks.proofs.laws.inserts_are_concurrent.Goals as goal

pub returns : goal.returns
returns c = concurrent_inserts
