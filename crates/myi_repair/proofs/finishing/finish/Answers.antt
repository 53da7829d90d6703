use Rattle.myi_defs.proofs.CallerLemmas.{sound}
use Rattle.myi_repair.proofs.FilesLaws.{apart_of}
use Rattle.myi_repair.proofs.EndLaws.{cut_off_ends}
use Rattle.myi_repair.proofs.finishing.finish.Goals as goal

pub finish_table-requires-clause-apart : goal.finish_table-requires-clause-apart
finish_table-requires-clause-apart g c κs lives = apart_of _ c.args.name.now c.in_ok-table.ensures

pub finish_table-requires-clause-sound : goal.finish_table-requires-clause-sound
finish_table-requires-clause-sound g c κs lives = sound c.args.gathered.now.defs c.requires.defs

pub returns-clause-ends : goal.returns-clause-ends
returns-clause-ends g c = cut_off_ends _ _ _ _ _ _ _ c.in_ok-table.ensures c.finish_table.ensures.ends
