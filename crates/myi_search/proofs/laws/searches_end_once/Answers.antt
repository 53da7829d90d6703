use Rattle.myi_search.proofs.PathLaws.{stopped_once, never_both}
use Rattle.myi_search.proofs.laws.searches_end_once.Goals as goal

pub returns : goal.returns
returns c = record { once = stopped_once; either = never_both }
