use Rattle.myi_insertion.proofs.RoomLaws.{stock_taken, stock_given}
use Rattle.myi_insertion.proofs.laws.rooms_hand_out_their_bytes.Goals as goal

pub returns-clause-taken : goal.returns-clause-taken
returns-clause-taken c = stock_taken

pub returns-clause-given : goal.returns-clause-given
returns-clause-given c = stock_given
