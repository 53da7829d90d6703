use Rattle.myi_dellist.proofs.SeveralLemmas.{several-found, several-list, several-keeps, parts-all}
use Rattle.myi_dellist.proofs.laws.several_releases_find_their_list.Goals as goal

pub returns : goal.returns
returns c = record {
  found = λ d areas holes l m. let s = several-found d areas holes l m in (s.heads, s.found, s.bytes_are);
  list = several-list;
  keeps = several-keeps;
  parts = parts-all;
}
