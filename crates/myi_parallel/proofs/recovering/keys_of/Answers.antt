use Rattle.std.proofs.Common.{◌≡◌, ◌∙◌, ◌+◌, [], ◌∷◌, ◌++◌, length, ap, sym, arith}
use Rattle.std.proofs.lemmas.List.{length_push}
use Rattle.std.proofs.lemmas.Iterator.Adapters.{YieldsList-from_vec}
use Rattle.std.proofs.lemmas.Iterator.Consumers.{YieldsList-turn}
use Rattle.myi_pair.specs.Trees.{place_of}
use Rattle.myi_parallel.proofs.TableLaws.{keys_more}
use Rattle.myi_parallel.proofs.recovering.keys_of.Goals as goal

pub place_of-place-requires : goal.place_of-place-requires
place_of-place-requires c =
    let was = c.loop-pairs.invariant in
    let given = c.into_iter-pairs-iterator.ensures.into_iter_gives in
    let turn = YieldsList-turn (YieldsList-from_vec {s = c.into_iter-pairs-iterator.result} c.args.pairs.items given.0 (omega (arith, given.1, c.args.pairs.ok.0))) c.loop-pairs.yielded c.loop-pairs.pairs-iterator c.loop-pairs.yielded_by c.next.result c.next.new.self c.in-Some.pairs c.in-Some.is c.next.ensures.steps in
    (omega arith, omega (arith, turn.0, c.requires, was.count, c.len-in-loop-pairs.ensures, c.loop-pairs.keys.ok.0))

pub loop-pairs-preserved : goal.loop-pairs-preserved
loop-pairs-preserved c =
    let was = c.loop-pairs.invariant in
    let number : c.len-in-loop-pairs.result + 1 ≡ 1 + length c.loop-pairs.yielded = omega (arith, c.len-in-loop-pairs.ensures, was.count, c.loop-pairs.keys.ok.0) in
    let place = c.place_of-place.ensures ∙ ap (place_of c.args.defs.now) number in
    record {
      count = ap length c.in_ok-push.ensures.items ∙ length_push c.loop-pairs.keys.items _ ∙ ap (λ n. n + 1) was.count ∙ sym (length_push c.loop-pairs.yielded c.in-Some.pairs);
      keys = c.in_ok-push.ensures.items ∙ ap (λ ks. ks ++ record { place = c.place_of-place.result; pairs = c.in-Some.pairs } ∷ []) was.keys ∙ sym (keys_more c.args.defs.now 1 c.loop-pairs.yielded c.in-Some.pairs _ (ap (λ p. record { place = p; pairs = c.in-Some.pairs }) place));
    }
