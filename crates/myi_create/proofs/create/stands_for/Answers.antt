use Rattle.myi_create.proofs.CreateLaws.{fault_told}
use Rattle.myi_create.proofs.create.stands_for.Goals as goal

pub returns-in-Err-clause-refused : goal.returns-in-Err-clause-refused
returns-in-Err-clause-refused c = fault_told c.args.bytes.now c.in-Err.fault c.into.result c.in-Err.ensures.stopped c.into.ensures
