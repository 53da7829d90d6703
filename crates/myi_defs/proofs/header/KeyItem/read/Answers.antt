use Rattle.std.proofs.Common.{◌+◌, arith, ap, length}
use Rattle.myi_defs.proofs.HeaderLemmas.{key_item-segments, length-seg_items}
use Rattle.myi_defs.proofs.header.KeyItem.read.Goals as goal

pub returns-then-header-place-clause-past : goal.returns-then-header-place-clause-past
returns-then-header-place-clause-past c = λ _. omega (arith, key_item-segments c.args.at c.args.header.now, c.u8_at-count.ensures)

pub returns-clause-inside : goal.returns-clause-inside
returns-clause-inside c =
    omega (arith, ap length c.new-segments.ensures, ap length c.in_ok-seg_items.ensures, length-seg_items c.u8_at-count.result (c.args.at + 12) c.args.header.now)

pub returns-clause-few : goal.returns-clause-few
returns-clause-few c =
    omega (arith, ap length c.new-segments.ensures, ap length c.in_ok-seg_items.ensures, length-seg_items c.u8_at-count.result (c.args.at + 12) c.args.header.now)
