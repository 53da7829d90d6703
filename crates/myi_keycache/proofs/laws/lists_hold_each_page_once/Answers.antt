use Rattle.std.proofs.Common.{arith}
use Rattle.myi_keycache.proofs.ListsLemmas.{midpoint_lists, goes_first, third_hit, share_kept}
use Rattle.myi_keycache.proofs.laws.lists_hold_each_page_once.Goals as goal

pub returns : goal.returns
returns c = record {
  none = λ setup is. record { once = λ p n. omega arith; few = omega arith };
  once = λ setup lists at len is l. midpoint_lists setup lists at len is.some_block l;
  first = goes_first;
  third = third_hit;
  share = share_kept;
}
