use Rattle.std.proofs.Common.{◌+◌, ◌||◌, drop, sym, ap, ◌∙◌, arith}
use Rattle.myi_keylist.specs.Repeats.{has_repeat}
use Rattle.myi_keylist.proofs.RepeatLaws.{neighbours, last_left}
use Rattle.myi_keylist.proofs.pair_list.PairList.has_repeat.Goals as goal

pub returns-then-is_repeat : goal.returns-then-is_repeat
returns-then-is_repeat c =
    let step = neighbours c.args.self.now c.loop-i.i c.code.result.now c.code-in-loop-i.result.now c.is_repeat.result (has_repeat c.args.self.now) (omega (arith, c.in-Some.ensures))
    c.code.ensures.value c.code.ensures.key c.code-in-loop-i.ensures.value c.code-in-loop-i.ensures.key c.is_repeat.ensures c.loop-i.invariant in
    sym (step ∙ ap (λ b. b || has_repeat (drop (c.loop-i.i + 1) c.args.self.now)) c.if-is_repeat.true)

pub loop-i-preserved : goal.loop-i-preserved
loop-i-preserved c =
    let step = neighbours c.args.self.now c.loop-i.i c.code.result.now c.code-in-loop-i.result.now c.is_repeat.result (has_repeat c.args.self.now) (omega (arith, c.in-Some.ensures))
    c.code.ensures.value c.code.ensures.key c.code-in-loop-i.ensures.value c.code-in-loop-i.ensures.key c.is_repeat.ensures c.loop-i.invariant in
    sym (step ∙ ap (λ b. b || has_repeat (drop (c.loop-i.i + 1) c.args.self.now)) c.if-is_repeat.false)

pub returns : goal.returns
returns c = sym (last_left c.args.self.now c.loop-i.i (omega (arith, c.in-Some.ensures))) ∙ c.loop-i.invariant
