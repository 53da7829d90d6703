use Rattle.std.proofs.Common.{rules, ◌≡◌, ◌∙◌, ap, subst, sym, length, arith}
use Rattle.std.specs.Prelude.{All}
use Rattle.std.proofs.lemmas.Result.{IfOk-weaker}
use Rattle.myi_btree.specs.Sizes.{IsPlaced, AreSized}
use Rattle.myi_parallel.specs.KeyPairs.{asked_from, keys_from}
use Rattle.myi_parallel.specs.LaidTrees.{AreLaid}
use Rattle.myi_parallel.proofs.TableLaws.{length-keys_from, keys_placed, keys_sized, trees_of_keys}
use Rattle.myi_parallel.proofs.recovering.lay_gathered.Goals as goal

pub lay_all-requires-clause-few : goal.lay_all-requires-clause-few
lay_all-requires-clause-few g c κs lives =
    let d = c.args.gathered.now.defs in
    let same : c.into_vec-pairs.result.items ≡ c.args.gathered.now.pairs = search rules in
    let keys = c.in_ok-keys.ensures ∙ ap (keys_from d 1) same in
    let long : length c.in_ok-keys.keys.items ≡ length d.keys = ap length keys ∙ length-keys_from d 1 c.args.gathered.now.pairs ∙ c.requires.pairs.all in
    omega (arith, long, c.requires.sound.few_keys)

pub lay_all-requires-clause-placed : goal.lay_all-requires-clause-placed
lay_all-requires-clause-placed g c κs lives =
    let d = c.args.gathered.now.defs in
    let same : c.into_vec-pairs.result.items ≡ c.args.gathered.now.pairs = search rules in
    let keys = c.in_ok-keys.ensures ∙ ap (keys_from d 1) same in
    subst (All (λ k. IsPlaced k.place)) (sym keys) (keys_placed d c.args.gathered.now.pairs c.requires.sound c.requires.pairs.all)

pub lay_all-requires-clause-sized : goal.lay_all-requires-clause-sized
lay_all-requires-clause-sized g c κs lives =
    let d = c.args.gathered.now.defs in
    let same : c.into_vec-pairs.result.items ≡ c.args.gathered.now.pairs = search rules in
    let keys = c.in_ok-keys.ensures ∙ ap (keys_from d 1) same in
    subst (All (λ k. AreSized k.place k.pairs)) (sym keys) (keys_sized d c.args.gathered.now.pairs c.requires.pairs)

pub returns-clause-laid : goal.returns-clause-laid
returns-clause-laid g c =
    let d = c.args.gathered.now.defs in
    let same : c.into_vec-pairs.result.items ≡ c.args.gathered.now.pairs = search rules in
    let keys = c.in_ok-keys.ensures ∙ ap (keys_from d 1) same in
    IfOk-weaker c.lay_all.result _ _ (λ laid are. trees_of_keys d c.args.gathered.now.pairs laid.items c.requires.sound c.requires.pairs (subst (λ ks. AreLaid (asked_from 1 ks) laid.items) keys are)) c.lay_all.ensures
