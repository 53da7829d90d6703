use Rattle.myi_chain.proofs.PlaceLemmas.{room_case, used_case, row_case, start_case, empty_case, tried_case, deleted_case, further_case}
use Rattle.myi_chain.proofs.laws.each_place_is_read.Goals as goal

pub returns : goal.returns
returns c = record {
  room = room_case;
  used = used_case;
  row = row_case;
  start = start_case;
  empty = empty_case;
  deleted = deleted_case;
  further = further_case;
  tried = tried_case;
}
