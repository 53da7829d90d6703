use Rattle.myi_repair.proofs.FilesLaws.{apart_of}
use Rattle.myi_repair.proofs.gathering.gather.Goals as goal

pub gather_table-requires-clause-apart : goal.gather_table-requires-clause-apart
gather_table-requires-clause-apart g c κs lives = apart_of _ c.args.name.now c.in_ok-table.ensures
