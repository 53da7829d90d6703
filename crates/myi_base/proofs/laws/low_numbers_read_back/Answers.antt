use Rattle.myi_base.proofs.NumberLaws.{length-low_num_bytes, bytes-low_num_bytes, low_num-low_num_bytes, low_num-below, low_num-take, low_num_bytes-low_num}
use Rattle.myi_base.proofs.laws.low_numbers_read_back.Goals as goal

pub returns : goal.returns
returns c = record {
  length = length-low_num_bytes;
  bytes = bytes-low_num_bytes;
  read = low_num-low_num_bytes;
  below = low_num-below;
  front = low_num-take;
  once = low_num_bytes-low_num;
}
