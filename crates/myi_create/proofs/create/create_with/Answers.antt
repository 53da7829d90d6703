use Rattle.myi_create.proofs.CreateLaws.{apart_of}
use Rattle.myi_create.proofs.create.create_with.Goals as goal

pub put_files-requires-clause-apart : goal.put_files-requires-clause-apart
put_files-requires-clause-apart g c κs within = apart_of _ c.args.name.now c.in_ok-table.ensures
