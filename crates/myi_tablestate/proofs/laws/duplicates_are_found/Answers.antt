use Rattle.myi_tablestate.proofs.HolderLemmas.{held_by_none, not_unique, not_complete, found, other_holds, own_none, none_other}
use Rattle.myi_tablestate.proofs.laws.duplicates_are_found.Goals as goal

pub returns : goal.returns
returns c = record {
  plain = λ d values k rows plain. held_by_none d values k rows (not_unique d values k rows plain);
  absent = λ d values k rows part. held_by_none d values k rows (not_complete d values k rows part);
  found = found;
  other = other_holds;
  own = own_none;
  none = λ d s values k at sound t number unique whole least. none_other d values k at s.rows least;
}
