use Rattle.myi_base.proofs.NumberLaws.{length-num_bytes, bytes-num_bytes, num-num_bytes, num-below, num-take, num_bytes-num}
use Rattle.myi_base.proofs.laws.numbers_read_back.Goals as goal

pub returns : goal.returns
returns c = record {
  length = length-num_bytes;
  bytes = bytes-num_bytes;
  read = num-num_bytes;
  below = num-below;
  front = num-take;
  once = num_bytes-num;
}
