use Rattle.std.proofs.Common.{arith}
use Rattle.myi_base.specs.Numbers.{num}
use Rattle.myi_keypage.proofs.FirstBytes.{first_bytes}
use Rattle.myi_keypage.proofs.item.short_number.Goals as goal

pub returns-in-len8-up : goal.returns-in-len8-up
unfolding num
returns-in-len8-up c = first_bytes c.args.count c.args.bytes.now c.from_be_bytes.result c.if-count-gt0.true c.requires.few (λ i. omega (arith, c.type_inv.bytes i)) (omega (arith, c.from_be_bytes.ensures))
