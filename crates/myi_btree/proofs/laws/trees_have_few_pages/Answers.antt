use Rattle.myi_btree.proofs.FewPages.{laid_few}
use Rattle.myi_btree.proofs.laws.trees_have_few_pages.Goals as goal

pub returns : goal.returns
returns c = laid_few
