use Rattle.myi_btree.proofs.UsedLaws.{meets_apart}
use Rattle.myi_btree.proofs.laws.used_pages_end_walks.Goals as goal

pub returns : goal.returns
returns c = meets_apart
