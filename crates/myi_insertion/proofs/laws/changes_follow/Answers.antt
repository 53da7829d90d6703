use Rattle.myi_insertion.proofs.NodeLaws.{trades_then, grows_then, trades_clear, trades_others}
use Rattle.myi_insertion.proofs.laws.changes_follow.Goals as goal

pub returns-clause-trades : goal.returns-clause-trades
returns-clause-trades c = trades_then

pub returns-clause-grows : goal.returns-clause-grows
returns-clause-grows c = grows_then

pub returns-clause-clear : goal.returns-clause-clear
returns-clause-clear c = trades_clear

pub returns-clause-others : goal.returns-clause-others
returns-clause-others c = trades_others
