use Rattle.std.proofs.Common.{◌≡◌, ◌+◌, ◌++◌, ◌∷◌, [], List, get_or, sym, ap, ◌∙◌, arith}
use Rattle.std.proofs.lemmas.List.{length-drop, get_or-drop}
use Rattle.myi_keys.proofs.CallerLemmas.{code_is}
use Rattle.myi_keylist.specs.declared.pair.Pair.{Pair}
use Rattle.myi_keylist.specs.PairOrder.{pair_with}
use Rattle.myi_btree.specs.Laying.{level_pairs, pairs_left}
use Rattle.myi_btree.proofs.LayingLaws.{pushed}
use Rattle.myi_btree.proofs.laying.Laying.set_aside.Goals as goal

pub overflow_add-i : goal.overflow_add-i
overflow_add-i c = omega (arith, c.requires.inside, c.requires.bound, length-drop c.args.self.now.start (level_pairs c.args.self.now.pairs.now c.args.self.now.below))

pub push-requires : goal.push-requires
push-requires c = (code_is _ _ (c.code.ensures.key (pair_with [] 0)) (c.code.ensures.value (pair_with [] 0))).0

pub overflow_add-self : goal.overflow_add-self
overflow_add-self c = omega (arith, c.requires.inside, c.requires.bound, length-drop c.args.self.now.start (level_pairs c.args.self.now.pairs.now c.args.self.now.below))

pub returns-clause-separators : goal.returns-clause-separators
returns-clause-separators c = λ other.
    let pairs : List Pair = level_pairs c.args.self.now.pairs.now c.args.self.now.below in
    let key = code_is _ _ (c.code.ensures.key other) (c.code.ensures.value other) in
    let at : get_or c.pairs_of-pairs.result.now (c.args.self.now.start + c.args.count) other ≡ get_or (pairs_left c.args.self.now) c.args.count other =
    ap (λ (t : List Pair). get_or t (c.args.self.now.start + c.args.count) other) c.pairs_of-pairs.ensures ∙ sym (get_or-drop c.args.self.now.start pairs c.args.count other) in
    c.in_ok-push.ensures.added ∙ ap (λ (p : Pair). c.args.self.now.level.separators ++ p ∷ []) (pushed _ _ (get_or c.pairs_of-pairs.result.now (c.args.self.now.start + c.args.count) other) key.1 (c.row.ensures other) ∙ at)
