use Rattle.std.proofs.Common.{◌<◌, ◌≤◌, ◌++◌, suc, List, [], ◌∷◌, length, sym, ap, subst, ◌∙◌}
use Rattle.myi_inserter.specs.declared.unique_key.UniqueKey.{UniqueKey}
use Rattle.myi_inserter.proofs.RowLemmas.{keys_in, keys_more, keys_all}
use Rattle.myi_inserter.proofs.put_keys.unique_keys.Goals as goal

pub loop-i-preserved : goal.loop-i-preserved
loop-i-preserved c =
    let d = c.args.defs.now in
    let i = c.loop-i.i in
    record {
      keys = c.in_ok-push_unique.ensures ∙ ap (λ (l : List UniqueKey). l ++ keys_in d c.args.view.now (suc i ∷ [])) c.loop-i.invariant.keys
          ∙ sym (keys_more d c.args.view.now i (subst (λ ks. i < length ks) c.as_slice-count.ensures c.loop-i-test.true));
    }

pub returns : goal.returns
returns c = c.loop-i.invariant.keys ∙ keys_all c.args.defs.now c.args.view.now c.loop-i.i (subst (λ ks. length ks ≤ c.loop-i.i) c.as_slice-count.ensures c.loop-i-test.false)
