use Rattle.myi_keypage.proofs.CallerLemmas.{page_length, page_writable, front_used, entry_least, two_used}
use Rattle.myi_keypage.proofs.FitLaws.{page_inside, part_used, one_used, back_used, leaf_length, entry_most, put_used, keys_short}
use Rattle.myi_keypage.proofs.laws.entries_fit.Goals as goal

pub returns : goal.returns
returns c = record {
  length = page_length;
  inside = page_inside;
  writable = page_writable;
  part = part_used;
  one = one_used;
  front = front_used;
  back = back_used;
  leaf = leaf_length;
  entry = entry_most;
  least = entry_least;
  before = put_used;
  keys = keys_short;
  two = two_used;
}
