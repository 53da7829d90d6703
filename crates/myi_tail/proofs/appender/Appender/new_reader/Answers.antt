use Rattle.std.proofs.Common.{rules}
use Rattle.myi_tail.proofs.StepLemmas.{may_split}
use Rattle.myi_tail.proofs.appender.Appender.new_reader.Goals as goal

pub split_seat-seat-requires : goal.split_seat-seat-requires
split_seat-seat-requires c = (search rules, search rules, may_split _ _ _ _ _ _ c.self.invariant.view)
