use Rattle.myi_data.proofs.PlainLaws.{plain_read}
use Rattle.myi_data.proofs.laws.plain_tables_are_read.Goals as goal

pub returns : goal.returns
returns c = λ d extend x s plain. plain_read d s plain extend x
