use Rattle.myi_keytrees.proofs.OpenLaws.{opened, none_in_front}
use Rattle.myi_keytrees.proofs.laws.opened_trees_stand.Goals as goal

pub returns-clause-stand : goal.returns-clause-stand
returns-clause-stand c = opened

pub returns-clause-front : goal.returns-clause-front
returns-clause-front c = none_in_front
