use Rattle.std.proofs.Common.{◌≡◌, ◌<◌, ◌≤◌, subst, ◌+◌, ◌++◌, ◌∷◌, [], List, length, sym, ap, ◌∙◌}
use Rattle.myi_pack.specs.Unpacking.{row_of}
use Rattle.myi_keylist.specs.declared.pair.Pair.{Pair}
use Rattle.myi_keylist.specs.PairOrder.{pair_with}
use Rattle.myi_data.specs.Keys.{key_of}
use Rattle.myi_rowtrees.proofs.PairLemmas.{pairs_more, pairs_all, some_values}
use Rattle.myi_rowtrees.proofs.pairs.pairs_of_row.Goals as goal

pub loop-i-preserved : goal.loop-i-preserved
loop-i-preserved c =
    let d = c.args.defs.now in
    let row = c.args.row.now in
    let view = c.view_packed-view.result in
    let shown : view ≡ row = some_values view row (row_of d c.deref.result.now) c.view_packed-view.ensures.found (ap (row_of d) (c.deref.ensures.value ∙ c.in_ok-packed.ensures) ∙ c.spellings_are_shortest.ensures.read d row c.requires.sound c.requires.fits) in
    let key = c.in_ok-key.ensures ∙ ap (key_of d (c.loop-i.i + 1)) shown in
    record {
      pairs = c.in_ok-push.ensures.items
          ∙ ap (λ k. c.loop-i.pairs.items ++ pair_with k c.args.pointer ∷ []) key
          ∙ ap (λ (ps : List Pair). ps ++ pair_with (key_of d (c.loop-i.i + 1) row) c.args.pointer ∷ []) c.loop-i.invariant.pairs
          ∙ sym (pairs_more d row c.args.pointer c.loop-i.i (subst (λ ks. c.loop-i.i < length ks) c.as_slice-count.ensures c.loop-i-test.true));
    }

pub returns : goal.returns
returns c = c.loop-i.invariant.pairs ∙ pairs_all c.args.defs.now c.args.row.now c.args.pointer c.loop-i.i (subst (λ ks. length ks ≤ c.loop-i.i) c.as_slice-count.ensures c.loop-i-test.false)
