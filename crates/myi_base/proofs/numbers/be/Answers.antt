use Rattle.std.proofs.Common.{arith, length}
use Rattle.myi_base.proofs.NumberLaws.{num-below}
use Rattle.myi_base.specs.Numbers.{num}
use Rattle.myi_base.proofs.numbers.be.Goals as goal

pub returns-clause-below : goal.returns-clause-below
unfolding num
returns-clause-below c =
    rw c.read_uint.ensures (num-below (length c.args.bytes.now) c.args.bytes.now (λ i. omega (arith, c.type_inv.bytes i)))
