use Rattle.std.proofs.Common.{◌≡◌, ◌∙◌, ◌+◌, ◌<◌, ◌++◌, ◌∷◌, [], ap, sym, subst, map, length, drop, take, get_or, arith}
use Rattle.myi_parallel.specs.Dealing.{next_turn, next_round}
use Rattle.myi_parallel.specs.LaidTrees.{AreLaid}
use Rattle.myi_parallel.specs.Shares.{asked_in, share_of}
use Rattle.myi_parallel.proofs.DealLaws.{next_inside}
use Rattle.myi_parallel.proofs.DealingLaws.{Collecting, own_inside, own_is, collecting_next, laid_more, slice_back, same_long, split_here, round_most}
use Rattle.myi_parallel.proofs.collecting.collect.Goals as goal

pub take_tree-requires-clause-round : goal.take_tree-requires-clause-round
take_tree-requires-clause-round c =
    let was = c.loop.invariant in
    let dealt = c.requires.dealt in
    let all = dealt.0 in
    let asked = map asked_in c.args.shares.items in
    let workers = length c.args.shares.items in
    let s = split_here all c.loop.counter (omega (arith, c.loop-test.true, dealt.1)) in
    let left = subst (λ l. Collecting workers c.loop.turn c.loop.round l asked) s.1 (was.left all dealt.1 dealt.2) in
    subst (λ e. c.loop.round < length (share_of e c.loop.turn)) (sym (ap (map asked_in) c.deref_mut.ensures.value ∙ was.same))
    (own_inside workers c.loop.turn c.loop.round s.0 (drop (c.loop.counter + 1) all) asked was.turn left)

pub loop-preserved : goal.loop-preserved
loop-preserved c =
    let was = c.loop.invariant in
    let asked = map asked_in c.args.shares.items in
    let workers = length c.args.shares.items in
    let items = c.loop.shares.items in
    let new = c.take_tree.new.shares in
    let i = c.loop.counter in
    let held = ap (map asked_in) c.deref_mut.ensures.value ∙ was.same in
    let kept = c.take_tree.ensures.same ∙ ap (map asked_in) c.deref_mut.ensures.value in
    let back = slice_back c.loop.shares.len new items (omega (arith, c.loop.shares.ok.0)) (same_long asked_in new items kept) in
    let many : c.len-workers.result ≡ workers = omega (arith, c.len-workers.ensures, c.args.shares.ok.0) in
    let turned = c.next_turn-turn.ensures ∙ ap (λ n. next_turn n c.loop.turn) many in
    let rounds = c.next_round-round.ensures ∙ ap (λ t. next_round t c.loop.round) turned in
    record {
      turn = subst (λ t. t < workers) (sym turned) (next_inside workers c.loop.turn was.turn);
      few = omega (arith, c.next_round-round.ensures, round_most c.next_turn-turn.result c.loop.round, was.few);
      same = ap (map asked_in) back ∙ (kept ∙ was.same);
      left = λ all long deals.
          let s = split_here all i (omega (arith, c.loop-test.true, long)) in
          let here = subst (λ l. Collecting workers c.loop.turn c.loop.round l asked) s.1 (was.left all long deals) in
          subst (λ t. Collecting workers t c.next_round-round.result (drop (i + 1) all) asked) (sym turned)
          (subst (λ r. Collecting workers (next_turn workers c.loop.turn) r (drop (i + 1) all) asked) (sym rounds) (collecting_next workers c.loop.turn c.loop.round s.0 (drop (i + 1) all) asked was.turn here));
      laid = λ all long deals.
          let s = split_here all i (omega (arith, c.loop-test.true, long)) in
          let here = subst (λ l. Collecting workers c.loop.turn c.loop.round l asked) s.1 (was.left all long deals) in
          let own : s.0 ≡ get_or (share_of (map asked_in c.deref_mut.result.now) c.loop.turn) c.loop.round s.0 = subst (λ e. s.0 ≡ get_or (share_of e c.loop.turn) c.loop.round s.0) (sym held) (own_is workers c.loop.turn c.loop.round s.0 (drop (i + 1) all) asked was.turn here) in
          subst (λ l. AreLaid l c.push.new.self.items) (sym s.2) (subst (λ ls. AreLaid (take i all ++ s.0 ∷ []) ls) (sym c.in_ok-push.ensures.items) (laid_more (take i all) c.loop.laid.items s.0 c.in_ok-tree.tree (was.laid all long deals) (c.in_ok-tree.ensures.laid s.0 own)));
    }
