use Rattle.myi_create.proofs.CreateLaws.{told_whole}
use Rattle.myi_create.proofs.create.put_whole.Goals as goal

pub returns-clause-done : goal.returns-clause-done
returns-clause-done g c = told_whole c.args.file.now c.args.bytes.now _ _ _ c.in_ok-cut.ensures.ok c.in_ok-write_at.ensures.ok
