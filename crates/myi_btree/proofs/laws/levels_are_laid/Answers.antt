use Rattle.myi_btree.proofs.CallerLemmas.{good_count, count_pos, level_count, level_lt, length-places_from, multiple, ends}
use Rattle.myi_btree.proofs.laws.levels_are_laid.Goals as goal

pub returns : goal.returns
returns c = record {
  count = good_count;
  some = count_pos;
  pages = level_count;
  fewer = level_lt;
  places = length-places_from;
  whole = multiple;
  ends = ends;
}
