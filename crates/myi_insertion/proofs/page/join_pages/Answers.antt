use Rattle.std.proofs.Common.{get_or}
use Rattle.myi_keys.specs.Comparing.{key_front}
use Rattle.myi_keylist.specs.PairOrder.{pair_with}
use Rattle.myi_insertion.proofs.PageLaws.{no_pair, pair_again, is_code_of, joined_is}
use Rattle.myi_insertion.proofs.page.join_pages.Goals as goal

pub push-requires : goal.push-requires
push-requires c = is_code_of c.code.result.now (get_or c.args.pairs.now c.args.i no_pair) (c.code.ensures.key no_pair) (c.code.ensures.value no_pair)

pub returns-clause-pairs : goal.returns-clause-pairs
returns-clause-pairs c = λ other.
    joined_is c.new-both.result c.push_pairs.new.into c.push.new.self c.push_pairs-2.new.into c.args.left.now.pairs c.args.right.now.pairs (pair_with (key_front c.code.result.now) c.row.result) (get_or c.args.pairs.now c.args.i other) c.len.result c.len-2.result
    c.new-both.ensures c.in_ok-push_pairs.ensures c.len.ensures c.in_ok-push.ensures.added (pair_again c.code.result.now c.row.result (get_or c.args.pairs.now c.args.i other) (c.code.ensures.key other) (c.code.ensures.value other) (c.row.ensures other)) c.in_ok-push_pairs-2.ensures c.len-2.ensures
