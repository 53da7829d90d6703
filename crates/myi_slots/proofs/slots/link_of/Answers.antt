use Rattle.std.proofs.Common.{sym, arith}
use Rattle.myi_slots.proofs.HeadLemmas.{link-none, link-some, link-bad}
use Rattle.myi_slots.proofs.slots.link_of.Goals as goal

pub returns-then-number-none_number : goal.returns-then-number-none_number
returns-then-number-none_number c = sym (link-none c.args.slots.size c.args.slots.width c.args.slots.end c.args.number c.none_number.result c.none_number.ensures c.if-number-none_number.true)

pub returns-then-number-slots : goal.returns-then-number-slots
returns-then-number-slots c = sym (link-some c.args.slots.size c.args.slots.width c.args.slots.end c.args.number c.none_number.result c.none_number.ensures c.if-number-none_number.false c.if-number-slots.true)

pub returns : goal.returns
returns c = sym (link-bad c.args.slots.size c.args.slots.width c.args.slots.end c.args.number c.none_number.result c.none_number.ensures c.if-number-none_number.false (omega (arith, c.if-number-slots.false)))
