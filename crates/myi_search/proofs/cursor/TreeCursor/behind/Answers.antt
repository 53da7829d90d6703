use Rattle.std.proofs.Common.{List, ◌∷◌, ◌++◌, [], refl, ap, ◌∙◌}
use Rattle.myi_keys.specs.Comparing.{key_front}
use Rattle.myi_keylist.specs.declared.pair.Pair.{Pair}
use Rattle.myi_keylist.specs.PairOrder.{pair_with}
use Rattle.myi_search.proofs.RunLaws.{pair_read, code_read, behind_one}
use Rattle.myi_search.proofs.cursor.TreeCursor.behind.Goals as goal

pub push-requires : goal.push-requires
push-requires c = code_read c.code.result.now c.args.pair.now c.code.ensures.key c.code.ensures.value

pub returns : goal.returns
returns c = behind_one c.push.new.self c.args.pair.now
    (c.in_ok-push.ensures.added ∙ ap (λ (t : List Pair). t ++ pair_with (key_front c.code.result.now) c.args.pair.now.row ∷ []) c.new-pairs.ensures
    ∙ ap (λ (p : Pair). p ∷ []) (pair_read c.code.result.now c.args.pair.now.row c.args.pair.now c.code.ensures.key c.code.ensures.value refl))
