use Rattle.std.proofs.Common.{true, false, sym, ◌∙◌}
use Rattle.myi_keylist.proofs.NumberLaws.{key_told, number_told}
use Rattle.myi_keylist.proofs.pair_list.PairList.next_number.Goals as goal

pub returns-then-is_complete_code : goal.returns-then-is_complete_code
returns-then-is_complete_code c =
    number_told c.args.self.now c.args.i c.args.last c.code.result.now c.repeats_last.result true c.repeats_last.ensures c.if-repeats_last.false
    (sym c.if-is_complete_code.true ∙ c.is_complete_code.ensures) (key_told c.args.self.now c.args.i c.code.result.now c.code.ensures.value c.code.ensures.key)

pub returns-else-is_complete_code : goal.returns-else-is_complete_code
returns-else-is_complete_code c =
    number_told c.args.self.now c.args.i c.args.last c.code.result.now c.repeats_last.result false c.repeats_last.ensures c.if-repeats_last.false
    (sym c.if-is_complete_code.false ∙ c.is_complete_code.ensures) (key_told c.args.self.now c.args.i c.code.result.now c.code.ensures.value c.code.ensures.key)
