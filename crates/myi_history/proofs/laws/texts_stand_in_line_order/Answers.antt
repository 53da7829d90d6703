use Rattle.myi_history.proofs.LineOrderLemmas.{texts_in_order}
use Rattle.myi_history.proofs.laws.texts_stand_in_line_order.Goals as goal

pub returns : goal.returns
returns c = texts_in_order
