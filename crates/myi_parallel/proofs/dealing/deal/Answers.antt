use Rattle.std.proofs.Common.{◌≡◌, ◌∙◌, ◌+◌, ◌<◌, ◌++◌, ◌∷◌, [], ap, sym, subst, map, length, arith}
use Rattle.std.proofs.lemmas.List.{length_push, length-map, length-set}
use Rattle.myi_keylist.specs.PairOrder.{sorted}
use Rattle.myi_parallel.specs.Asked.{asked}
use Rattle.myi_parallel.specs.Dealing.{next_turn}
use Rattle.myi_parallel.specs.KeyPairs.{asked_from}
use Rattle.myi_parallel.specs.KeyTrees.{asked_of}
use Rattle.myi_parallel.specs.Shares.{asked_in, GetsOne, share_of}
use Rattle.myi_parallel.proofs.DealLaws.{next_inside}
use Rattle.myi_parallel.proofs.DealingLaws.{Dealing, deals_next, asked_more, slice_back}
use Rattle.myi_parallel.proofs.dealing.deal.Goals as goal

pub loop-key-preserved : goal.loop-key-preserved
loop-key-preserved c =
    let was = c.loop-key.invariant in
    let turn = c.loop-key.turn in
    let workers = c.args.workers in
    let old = c.loop-key.shares.items in
    let new = c.give.new.shares in
    let done = c.loop-key.yielded in
    let key = c.in-Some.key in
    let number : c.loop-key.number + 1 ≡ 1 + length done = omega (arith, was.number) in
    let one = c.new-tree.ensures ∙ ap (λ n. asked n key.place (sorted key.pairs)) number in
    let gets = subst (λ a. GetsOne turn a (map asked_in old) (map asked_in new)) one (subst (λ xs. GetsOne turn (asked_of c.new-tree.result) (map asked_in xs) (map asked_in new)) c.deref_mut.ensures.value c.in_ok-give.ensures) in
    let long : length new ≡ length old = omega (arith, ap length gets, length-map new asked_in, length-map old asked_in, length-set (map asked_in old) turn (share_of (map asked_in old) turn ++ asked (1 + length done) key.place (sorted key.pairs) ∷ [])) in
    let back = slice_back c.loop-key.shares.len new old (omega (arith, c.loop-key.shares.ok.0)) long in
    record {
      number = omega (arith, length_push done key, was.number);
      turn = subst (λ t. t < workers) (sym c.next_turn-turn.ensures) (next_inside workers turn was.turn);
      dealing = subst (λ xs. Dealing workers c.next_turn-turn.result (asked_from 1 (done ++ key ∷ [])) (map asked_in xs)) (sym back)
          (subst (λ t. Dealing workers t (asked_from 1 (done ++ key ∷ [])) (map asked_in new)) (sym c.next_turn-turn.ensures)
          (subst (λ all. Dealing workers (next_turn workers turn) all (map asked_in new)) (sym (asked_more 1 done key)) (deals_next workers turn (asked_from 1 done) (asked (1 + length done) key.place (sorted key.pairs)) (map asked_in old) (map asked_in new) was.turn gets was.dealing)));
    }
