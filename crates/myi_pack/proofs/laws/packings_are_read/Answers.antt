use Rattle.myi_pack.proofs.CallerLemmas.{row-takes}
use Rattle.myi_pack.proofs.RowLaws.{row-again, row-once}
use Rattle.myi_pack.proofs.laws.packings_are_read.Goals as goal

pub returns : goal.returns
returns c = record { packs = row-takes; found = row-again; once = row-once }
