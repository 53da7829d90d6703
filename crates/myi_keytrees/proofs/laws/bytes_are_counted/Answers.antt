use Rattle.myi_keytrees.proofs.CountLaws.{counted, few}
use Rattle.myi_keytrees.proofs.laws.bytes_are_counted.Goals as goal

pub returns : goal.returns
returns c = record { counted = counted; inside = few }
