use Rattle.myi_btree.proofs.FilePages as laws
use Rattle.myi_btree.proofs.laws.laid_pages_stand_behind.Goals as goal

pub returns : goal.returns
returns c = record { page = laws.page_long; pages = laws.pages_long; long = laws.tree_long; written = laws.over_behind; behind = laws.tree_behind }
