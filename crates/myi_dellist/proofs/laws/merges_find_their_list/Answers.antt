use Rattle.myi_dellist.proofs.MergeLemmas.{merge-finds}
use Rattle.myi_dellist.proofs.laws.merges_find_their_list.Goals as goal

pub returns : goal.returns
returns c d a holes list may = let f = merge-finds d holes a list may.behind in (f.joined, f.found, f.head, f.bytes, f.list)
