use Rattle.myi_dellist.proofs.PlanLemmas.{release-plans}
use Rattle.myi_dellist.proofs.laws.releases_find_their_list.Goals as goal

pub returns : goal.returns
returns c d a holes list may = let p = release-plans d a holes list may.behind in (p.plan, p.found, p.bytes_are d)
