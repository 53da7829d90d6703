use Rattle.std.proofs.Common.{◌-◌}
use Rattle.myi_keylist.proofs.NumberLaws.{key_told, repeat_told, not_zero}
use Rattle.myi_keylist.proofs.pair_list.PairList.repeats_last.Goals as goal

pub returns-then-i-ne0 : goal.returns-then-i-ne0
returns-then-i-ne0 c =
    repeat_told c.args.self.now c.args.i c.code.result.now c.code-then-i-ne0.result.now c.is_repeat.result (not_zero c.args.i c.if-i-ne0.true)
    (key_told c.args.self.now (c.args.i - 1) c.code.result.now c.code.ensures.value c.code.ensures.key)
    (key_told c.args.self.now c.args.i c.code-then-i-ne0.result.now c.code-then-i-ne0.ensures.value c.code-then-i-ne0.ensures.key)
    c.is_repeat.ensures
