use Rattle.myi_keyedrows.proofs.CloseLemmas.{closed_files}
use Rattle.myi_keyedrows.proofs.PlaceLemmas.{places_are}
use Rattle.myi_keyedrows.proofs.laws.closed_files_stand.Goals as goal

pub returns-clause-places : goal.returns-clause-places
returns-clause-places c = places_are

pub returns-clause-stand : goal.returns-clause-stand
returns-clause-stand c = λ k lost own s m h are kinds hold written header. closed_files c.trees_of_pairs_are_trees.ensures.back c.walks_stay_between.ensures.front k lost own s m h are kinds hold written header
