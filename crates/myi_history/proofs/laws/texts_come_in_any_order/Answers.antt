use Rattle.myi_history.proofs.LineOrderLemmas.{texts_own, texts_order}
use Rattle.myi_history.proofs.laws.texts_come_in_any_order.Goals as goal

pub returns : goal.returns
returns c = record { own = texts_own; order = texts_order }
