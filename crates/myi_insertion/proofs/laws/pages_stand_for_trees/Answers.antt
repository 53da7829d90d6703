use Rattle.myi_insertion.proofs.SettleLaws.{page_walks, page_below}
use Rattle.myi_insertion.proofs.InsertLaws.{single}
use Rattle.myi_insertion.proofs.laws.pages_stand_for_trees.Goals as goal

pub returns-clause-tree : goal.returns-clause-tree
returns-clause-tree c = page_walks

pub returns-clause-page : goal.returns-clause-page
returns-clause-page c = page_below

pub returns-clause-single : goal.returns-clause-single
returns-clause-single c = single
