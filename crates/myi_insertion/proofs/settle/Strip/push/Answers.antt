use Rattle.std.proofs.Common.{[], ◌∷◌, ◌++◌, get_or, ap, ◌∙◌}
use Rattle.myi_keylist.specs.declared.pair.Pair.{Pair}
use Rattle.myi_insertion.proofs.PageLaws.{no_pair, pair_again, is_code_of}
use Rattle.myi_insertion.proofs.settle.Strip.push.Goals as goal

pub push-requires-2 : goal.push-requires-2
push-requires-2 c = is_code_of c.code.result.now (get_or c.args.pairs.now c.args.i no_pair) (c.code.ensures.key no_pair) (c.code.ensures.value no_pair)

pub returns-clause-separators : goal.returns-clause-separators
returns-clause-separators c = λ other.
    c.in_ok-push-2.ensures.added ∙ ap (λ (p : Pair). c.args.self.now.separators ++ p ∷ []) (pair_again c.code.result.now c.row.result (get_or c.args.pairs.now c.args.i other) (c.code.ensures.key other) (c.code.ensures.value other) (c.row.ensures other))
