use Rattle.std.proofs.Common.{length, refl}
use Rattle.myi_data.specs.Stored.{shares}
use Rattle.myi_data.proofs.ShareLemmas.{group_again, stored_again, shares_less, end_writable, end_short, room_short}
use Rattle.myi_data.proofs.GiantLemmas.{held_fill, shared_blocks, shared_row, shared_ranges, shared_long, shared_chain}
use Rattle.myi_data.proofs.laws.giant_rows_stand.Goals as goal

pub returns : goal.returns
returns c = record {
  chain = λ sizes b front back held giant few aligned near.
      let f = held_fill sizes (length b) held giant few in
      let ss = shares sizes (length b) in (
        shared_blocks (length front) ss b,
        shared_chain _ front back (length front) ss b refl aligned f near refl,
        shared_row (length front) ss b f,
        shared_ranges (length front) ss b,
      );
  long = λ at sizes b held giant few. shared_long at (shares sizes (length b)) b (held_fill sizes (length b) held giant few);
  less = shares_less;
  again = group_again;
  same = stored_again;
  end = λ rest size multiple least e. (end_writable rest size multiple least e, end_short rest size e);
  middle = room_short;
}
