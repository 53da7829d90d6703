use Rattle.std.proofs.Common.{◌≡◌, ◌++◌, ◌∷◌, [], ◌∙◌, subst}
use Rattle.std.specs.Prelude.{OnOk}
use Rattle.myi_keys.proofs.CallerLemmas.{code_is}
use Rattle.myi_keylist.specs.PairOrder.{pair_with}
use Rattle.myi_rowkeys.proofs.row_keys.push_pair.Goals as goal

pub push-requires : goal.push-requires
push-requires c = (code_is c.deref.result.now _ c.in_ok-key_code_into.ensures.key (c.deref.ensures.value ∙ c.in_ok-key_code_into.ensures.written)).0

pub returns-clause-pair : goal.returns-clause-pair
returns-clause-pair c =
    let key = (code_is c.deref.result.now _ c.in_ok-key_code_into.ensures.key (c.deref.ensures.value ∙ c.in_ok-key_code_into.ensures.written)).1 in
    subst (λ k. OnOk c.push.result (c.push.new.self ≡ c.args.list.now ++ pair_with k c.args.row ∷ [])) key c.push.ensures.added
