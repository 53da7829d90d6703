use Rattle.myi_make.proofs.TextLaws.{memory_only, only_defs}
use Rattle.myi_make.proofs.filling.definitions.Goals as goal

pub want_of_memory-requires : goal.want_of_memory-requires
want_of_memory-requires c = memory_only _ c.in-Err.ensures.stopped

pub returns-in-Ok : goal.returns-in-Ok
returns-in-Ok c = only_defs c.in-Ok.defs c.in-Ok.ensures.read
