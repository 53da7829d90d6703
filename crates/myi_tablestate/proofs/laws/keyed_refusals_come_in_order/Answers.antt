use Rattle.myi_tablestate.proofs.KeyedLemmas.{left, row_first, key_next, room_last, none_of_three, none_refused}
use Rattle.myi_tablestate.proofs.laws.keyed_refusals_come_in_order.Goals as goal

pub returns : goal.returns
returns c = record { left = left; row = row_first; key = key_next; room = room_last; free = none_of_three; accepted = none_refused }
