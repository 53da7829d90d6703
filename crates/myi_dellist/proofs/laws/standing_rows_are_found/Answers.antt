use Rattle.myi_dellist.proofs.FreedRowLemmas.{freed-sound}
use Rattle.myi_dellist.proofs.RewriteLemmas.{rewrite-sound, rewrite-long}
use Rattle.myi_dellist.proofs.laws.standing_rows_are_found.Goals as goal

pub returns : goal.returns
returns c = record { released = freed-sound; rewritten = rewrite-sound; long = rewrite-long }
