use Rattle.myi_btree.proofs.CursorLaws.{over_left}
use Rattle.myi_btree.proofs.TreeWalks.{may_begin, begin_meets}
use Rattle.myi_btree.proofs.laws.walks_begin.Goals as goal

pub returns : goal.returns
returns c = record { begins = may_begin; meets = begin_meets; over = over_left }
