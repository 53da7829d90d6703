use Rattle.std.proofs.Common.{suc}
use Rattle.myi_ranges.proofs.MatchLemmas.{matching}
use Rattle.myi_ranges.proofs.laws.rows_that_come_match.Goals as goal

pub returns : goal.returns
returns c = λ d s key b found sound table there is. matching d s key b found sound table (c.key_lists_are_in_order.ensures.pointed d s sound table.state) (c.key_lists_are_in_order.ensures.strict d s (suc key) sound table.state) there is
