use Rattle.std.proofs.Common.{[], ◌∷◌, ◌++◌, List, get_or, ap, ◌∙◌}
use Rattle.myi_keys.specs.Comparing.{key_front}
use Rattle.myi_keylist.specs.declared.pair.Pair.{Pair}
use Rattle.myi_keylist.specs.PairOrder.{pair_with}
use Rattle.myi_insertion.proofs.PageLaws.{no_pair, pair_again, is_code_of}
use Rattle.myi_insertion.proofs.page.pair_at.Goals as goal

pub push-requires : goal.push-requires
push-requires c = is_code_of c.code.result.now (get_or c.args.pairs.now c.args.i no_pair) (c.code.ensures.key no_pair) (c.code.ensures.value no_pair)

pub returns : goal.returns
returns c = λ other.
    c.in_ok-push.ensures.added ∙ ap (λ (t : List Pair). t ++ pair_with (key_front c.code.result.now) c.row.result ∷ []) c.new-made.ensures
    ∙ ap (λ (p : Pair). p ∷ []) (pair_again c.code.result.now c.row.result (get_or c.args.pairs.now c.args.i other) (c.code.ensures.key other) (c.code.ensures.value other) (c.row.ensures other))
